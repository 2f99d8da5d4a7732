-- WHAT A READER MUST BELIEVE: how many tiles have a property: none, exactly one, or two that are different (SPEC 5.3 and 5.4). Of the good
-- tiles that a call looks at this settles its answer. No two of the three hold together. Assumes nothing.
use Rattle.std.specs.Prelude.{◌≡◌, ◌≢◌, List, ℕ}
use Rattle.std.proofs.Common.{sym, ap, ◌∙◌}
use Rattle.code.specs.Tile.{Bytes}

-- SPEC 5.3 and 5.4: there is none
abbrev pub None : (List ℕ → Type 0) → Type 0
None F = (y : List ℕ) → F y → ⊥

-- SPEC 5.3 and 5.4: exactly one: y is one, and every other is y
pub record Only (F : List ℕ → Type 0) (y : List ℕ) : Type 0 where
  pub is : F y
  pub only : (z : List ℕ) → F z → z ≡ y

-- SPEC 5.3 and 5.4: two that are different
pub record Several (F : List ℕ → Type 0) : Type 0 where
  pub one : List ℕ
  pub other : List ℕ
  pub is : F one
  pub is_other : F other
  pub apart : one ≢ other

-- ---- no two hold together

pub none_several : {F : List ℕ → Type 0} → None F → Several F → ⊥
none_several n s = n s.one s.is

pub only_several : {F : List ℕ → Type 0} {y : List ℕ} → Only F y → Several F → ⊥
only_several o s = s.apart (o.only s.one s.is ∙ sym (o.only s.other s.is_other))

-- and there is one only
pub only_once : {F : List ℕ → Type 0} {y z : List ℕ} → Only F y → Only F z → y ≡ z
only_once {F} {y} o q = q.only y o.is

-- ---- what makes one of them hold

-- any two are the same
abbrev pub AtMostOne : (List ℕ → Type 0) → Type 0
AtMostOne F = (y z : List ℕ) → F y → F z → y ≡ z

pub once_only : {F : List ℕ → Type 0} {y : List ℕ} → AtMostOne F → F y → Only F y
once_only {F} {y} u f = record { is = f; only = λ z g. u z y g f }

pub once_several : {F : List ℕ → Type 0} → AtMostOne F → Several F → ⊥
once_several u s = s.apart (u s.one s.other s.is s.is_other)

-- those that are lists of bytes: of several it is shown that two such are among them
abbrev pub OfBytes : (List ℕ → Type 0) → List ℕ → Type 0
OfBytes F y = F y × Bytes y

-- ---- carried over

-- f takes what has F to what has G, and g takes it back: of G the same holds as of F. (Both may change nothing; or both add one good tile)
module _ {F G : List ℕ → Type 0} (f g : List ℕ → List ℕ) (there : (y : List ℕ) → F y → G (f y)) (back : (z : List ℕ) → G z → F (g z)) where
  pub none_over : None F → None G
  none_over n z h = n (g z) (back z h)

  pub only_over : ((z : List ℕ) → f (g z) ≡ z) → {y : List ℕ} → Only F y → Only G (f y)
  only_over e {y} o = record { is = there y o.is; only = λ z h. sym (e z) ∙ ap f (o.only (g z) (back z h)) }

  pub several_over : ((y : List ℕ) → g (f y) ≡ y) → Several F → Several G
  several_over e s = record {
    one = f s.one;
    other = f s.other;
    is = there s.one s.is;
    is_other = there s.other s.is_other;
    apart = λ q. s.apart (sym (e s.one) ∙ ap g q ∙ e s.other);
  }
