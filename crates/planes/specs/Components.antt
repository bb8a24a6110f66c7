-- One component, as the loops over the components take it.
use Rattle.std.specs.Prelude.{◌≡◌, List, ◌++◌, ℕ, ◌+◌, ◌≤◌, ◌<◌, ℤ, nat_abs, length, take, drop}
use Rattle.whole.specs.Cells.{cell}
use Rattle.wavelet.specs.Transform.{Band}
use Rattle.layout.specs.declared.Shape.{Shape}
use Rattle.layout.specs.Bands.{Wc, Hc}
use Rattle.layout.specs.Built.{Built}
use Rattle.layout.specs.Cells.{area, samples, start}
use Rattle.planes.specs.Values.{plane}
use Rattle.planes.specs.Places.{values_in}

-- room for the values of component i, each of at most this size
pub record ReadyOne (s : Shape) (bound i : ℕ) (l : List ℤ) : Type 0 where
  pub built : Built s
  pub there : i < s.nc
  pub room : start s s.nc ≤ length l
  pub small : (x y : ℕ) → x < Wc s i → y < Hc s i → nat_abs (values_in s l i x y) ≤ bound

-- l' is l with the values v of component i, and with no other cell changed
pub record HoldingOne (s : Shape) (i : ℕ) (v : Band ℤ) (l l' : List ℤ) : Type 0 where
  pub same : length l' ≡ length l
  pub values : (x y : ℕ) → x < Wc s i → y < Hc s i → values_in s l' i x y ≡ v x y
  pub other : (n : ℕ) → (start s i ≤ n → start s i + area s i ≤ n) → cell l' n ≡ cell l n

-- the list `out` with the samples f of component i in their place
abbrev pub with_plane : Shape → ℕ → Band ℕ → List ℕ → List ℕ
with_plane s i f out = take (samples s i) out ++ plane (Wc s i) (Hc s i) f ++ drop (samples s i + area s i) out
