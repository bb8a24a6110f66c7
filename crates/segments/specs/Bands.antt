-- B.3 and B.4 by the numbers of the picture header and the component table, as Annex B is defined in layout: which bands the weights table speaks of.
use Rattle.std.specs.Prelude.{ℕ, zero, suc, ◌+◌, ◌*◌, ◌/◌, ◌%◌, Bool, cond}
use Rattle.wavelet.specs.Bands.{τy}
use Rattle.layout.specs.Bands.{filters, letters_of, down_of, has_first_line}

-- B.4: bx[β,i], where no component is kept out of the wavelet
abbrev pub exists : ℕ → ℕ → ℕ → ℕ → Bool
exists nlx nly sy β = has_first_line nly sy (down_of nlx nly β) (τy (letters_of nlx nly β))

-- B.3: NL, and band b = Nc × β + i
abbrev pub bands : ℕ → ℕ → ℕ → ℕ
bands nc nlx nly = nc * filters nlx nly

-- B.4: b'x[b], for the vertical sampling factors of the components
abbrev pub band_exists : ℕ → ℕ → ℕ → (ℕ → ℕ) → ℕ → Bool
band_exists nc nlx nly sy b = exists nlx nly (sy (b % nc)) (b / nc)

-- how many of the bands before band b exist
unfoldable pub existing : (ℕ → Bool) → ℕ → ℕ
existing is zero = 0
existing is (suc b) = existing is b + cond (is b) 1 0
