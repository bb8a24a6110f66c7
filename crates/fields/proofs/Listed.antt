-- Laws of the list of names: each name is short, and is no other field's. Assumes nothing.
use Prim.Native.Nat.{ℕ, zero, suc, ◌≤◌, ◌<◌}
use mathlib.Core.Bool.{Bool, true, false, cond}
use mathlib.Core.List.{List, [], ◌∷◌}
use mathlib.Core.Path.{◌≡◌, refl, sym, ap, subst, ◌∙◌}
use native.Mathlib.Nat.{not-suc-le-zero, le_of_suc-le-suc}
use lib.Dec.{T, ltb, leb, eqb, ltb→lt, leb→le, eqb→eq}
use lib.ListN.{length, get_or}
use denote.Enum.Declared.{tag_of}
use Rattle.rows.specs.declared.Field.{Field}
use Rattle.rows.specs.declared.Field.TheVariants.{Soc, Cap, Lcap, Pih, Lpih, Lcod, Wf, Hf, Cw, Hsl, Nc, Ng, Ss, Bw, Fq, Br, Fslc, Ppoc, Cpih, Nlx}
use Rattle.rows.specs.declared.Field.TheVariants.{Nly, Qpih, Fs, Rm, Next, Cdt, Wgt, Nlt, Cwd, Cts, Crg, Tpc, Wgr, Sli, Lcdt, B, Sx, Sy, Across, Down}
use Rattle.rows.specs.declared.Field.TheVariants.{Lwgt, G, Lcom, Tcom, Lcrg, Lcwd, Sd, Samples, Work, Marks, Distances, Slh, Lslh, Ysl, Lprc, Precinct, Q, R, D, Packet}
use Rattle.rows.specs.declared.Field.TheVariants.{Dr, Significance, Counts, M, Ones, Data, Signs, Rest, Eoc, Tail}
use Rattle.rows.specs.contracts.Field.{the_type}
use Rattle.fields.specs.Names.{name_of}

-- ---- each field has its place

-- the fields, in the order of their declaration
abbrev pub all : List Field
all =
    Soc ∷ Cap ∷ Lcap ∷ Pih ∷ Lpih ∷ Lcod ∷ Wf ∷ Hf ∷ Cw ∷ Hsl ∷ Nc ∷ Ng ∷ Ss ∷ Bw ∷ Fq ∷ Br ∷ Fslc ∷ Ppoc ∷ Cpih ∷ Nlx ∷ Nly ∷ Qpih ∷ Fs ∷ Rm ∷
    Next ∷ Cdt ∷ Wgt ∷ Nlt ∷ Cwd ∷ Cts ∷ Crg ∷ Tpc ∷ Wgr ∷ Sli ∷ Lcdt ∷ B ∷ Sx ∷ Sy ∷ Across ∷ Down ∷ Lwgt ∷ G ∷ Lcom ∷ Tcom ∷ Lcrg ∷ Lcwd ∷ Sd ∷
    Samples ∷ Work ∷ Marks ∷ Distances ∷ Slh ∷ Lslh ∷ Ysl ∷ Lprc ∷ Precinct ∷ Q ∷ R ∷ D ∷ Packet ∷ Dr ∷ Significance ∷ Counts ∷ M ∷ Ones ∷ Data ∷
    Signs ∷ Rest ∷ Eoc ∷ Tail ∷ []

-- a field's place there
abbrev number_of : Field → ℕ
number_of f = tag_of the_type f

abbrev field_at : ℕ → Field
field_at n = get_or all n Soc

-- its number leads to it, and is one of 70
placed : (f : Field) → (field_at (number_of f) ≡ f) × T (ltb (number_of f) 70)
placed Soc = (refl, tt)
placed Cap = (refl, tt)
placed Lcap = (refl, tt)
placed Pih = (refl, tt)
placed Lpih = (refl, tt)
placed Lcod = (refl, tt)
placed Wf = (refl, tt)
placed Hf = (refl, tt)
placed Cw = (refl, tt)
placed Hsl = (refl, tt)
placed Nc = (refl, tt)
placed Ng = (refl, tt)
placed Ss = (refl, tt)
placed Bw = (refl, tt)
placed Fq = (refl, tt)
placed Br = (refl, tt)
placed Fslc = (refl, tt)
placed Ppoc = (refl, tt)
placed Cpih = (refl, tt)
placed Nlx = (refl, tt)
placed Nly = (refl, tt)
placed Qpih = (refl, tt)
placed Fs = (refl, tt)
placed Rm = (refl, tt)
placed Next = (refl, tt)
placed Cdt = (refl, tt)
placed Wgt = (refl, tt)
placed Nlt = (refl, tt)
placed Cwd = (refl, tt)
placed Cts = (refl, tt)
placed Crg = (refl, tt)
placed Tpc = (refl, tt)
placed Wgr = (refl, tt)
placed Sli = (refl, tt)
placed Lcdt = (refl, tt)
placed B = (refl, tt)
placed Sx = (refl, tt)
placed Sy = (refl, tt)
placed Across = (refl, tt)
placed Down = (refl, tt)
placed Lwgt = (refl, tt)
placed G = (refl, tt)
placed Lcom = (refl, tt)
placed Tcom = (refl, tt)
placed Lcrg = (refl, tt)
placed Lcwd = (refl, tt)
placed Sd = (refl, tt)
placed Samples = (refl, tt)
placed Work = (refl, tt)
placed Marks = (refl, tt)
placed Distances = (refl, tt)
placed Slh = (refl, tt)
placed Lslh = (refl, tt)
placed Ysl = (refl, tt)
placed Lprc = (refl, tt)
placed Precinct = (refl, tt)
placed Q = (refl, tt)
placed R = (refl, tt)
placed D = (refl, tt)
placed Packet = (refl, tt)
placed Dr = (refl, tt)
placed Significance = (refl, tt)
placed Counts = (refl, tt)
placed M = (refl, tt)
placed Ones = (refl, tt)
placed Data = (refl, tt)
placed Signs = (refl, tt)
placed Rest = (refl, tt)
placed Eoc = (refl, tt)
placed Tail = (refl, tt)

numbered : (f : Field) → number_of f < 70
numbered f = ltb→lt (number_of f) 70 (placed f).1

-- ---- tests that are computed over the whole list

abbrev every : {A : Type 0} → (A → Bool) → List A → Bool
every q [] = true
every q (x ∷ xs) = cond (q x) (every q xs) false

both : (a b : Bool) → T (cond a b false) → T a × T b
both true b t = (tt, t)
both false b t = absurd t

-- what every field of a list passes, each of its places does
passes_at : (q : Field → Bool) (fs : List Field) (n : ℕ) → T (every q fs) → n < length fs → T (q (get_or fs n Soc))
passes_at q [] n t h = absurd (not-suc-le-zero h)
passes_at q (f ∷ fs) zero t h = (both (q f) (every q fs) t).0
passes_at q (f ∷ fs) (suc n) t h = passes_at q fs n (both (q f) (every q fs) t).1 (le_of_suc-le-suc h)

passes : (q : Field → Bool) → T (every q all) → (f : Field) → T (q f)
passes q t f = subst (λ (g : Field). T (q g)) (placed f).0 (passes_at q all (number_of f) t (numbered f))

-- ---- short names, and different ones

-- a zero follows each name where 40 letters are kept, as C has it
pub name_ends : (f : Field) → length (name_of f) ≤ 39
name_ends f = leb→le (length (name_of f)) 39 (passes (λ g. leb (length (name_of g)) 39) tt f)

abbrev same_text : List ℕ → List ℕ → Bool
same_text [] [] = true
same_text [] (y ∷ ys) = false
same_text (x ∷ xs) [] = false
same_text (x ∷ xs) (y ∷ ys) = cond (eqb x y) (same_text xs ys) false

-- the number of the first field of that name, counted from n
abbrev found : List ℕ → ℕ → List Field → ℕ
found t n [] = n
found t n (f ∷ fs) = cond (same_text t (name_of f)) n (found t (suc n) fs)

-- a name leads back to its field
name_leads : (f : Field) → found (name_of f) 0 all ≡ number_of f
name_leads f = eqb→eq (found (name_of f) 0 all) (number_of f) (passes (λ g. eqb (found (name_of g) 0 all) (number_of g)) tt f)

-- so no two fields have one name
pub name_one : (f g : Field) → name_of f ≡ name_of g → f ≡ g
name_one f g e =
    let n : number_of f ≡ number_of g = sym (name_leads f) ∙ ap (λ (t : List ℕ). found t 0 all) e ∙ name_leads g in
    sym (placed f).0 ∙ ap field_at n ∙ (placed g).0
