-- WHAT A READER MUST BELIEVE: what a call that answers true or false promises (SPEC 2.4). Assumes nothing.
use Rattle.std.specs.Prelude.{◌≡◌, refl, Bool, true, false, ◌⊎◌, ℕ, eqb}
use Rattle.std.proofs.Common.{subst, inr, ⊎_elim, eqb-true}
use Rattle.std.proofs.lemmas.Bool.{eqb-false}

-- SPEC 2.4: yes or no, as a bool that says whether A holds: it is true exactly if A does
abbrev pub Says : Bool → Type 0 → Type 0
Says true A = A
Says false A = A → ⊥

-- ---- what follows

-- only one bool says whether A holds
pub says_once : (A : Type 0) (a b : Bool) → Says a A → Says b A → a ≡ b
says_once A true true s t = refl
says_once A true false s t = absurd (t s)
says_once A false true s t = absurd (s t)
says_once A false false s t = refl

-- where it is true A holds, and where it is false A does not
pub says_true : {b : Bool} {A : Type 0} → Says b A → b ≡ true → A
says_true {b} {A} s e = subst (λ (x : Bool). Says x A) e s

pub says_false : {b : Bool} {A : Type 0} → Says b A → b ≡ false → A → ⊥
says_false {b} {A} s e = subst (λ (x : Bool). Says x A) e s

-- a comparison of two numbers says whether A holds, where they are equal exactly if it does
pub says_equal : (m n : ℕ) {A : Type 0} → (m ≡ n → A) → (A → m ≡ n) → Says (eqb m n) A
says_equal m n {A} to back = go (eqb m n) refl
  where
    go : (b : Bool) → eqb m n ≡ b → Says b A
    go true e = to (eqb-true m n e)
    go false e = λ a. eqb-false m n e (back a)

-- where A holds, what says whether B holds says whether both do
pub says_both : (A B : Type 0) (r : Bool) → A → Says r B → Says r (A × B)
says_both A B true a b = (a, b)
says_both A B false a d = λ h. d h.1

-- and where A does not hold, what says whether B holds says whether one of them does
pub says_other : (A B : Type 0) (r : Bool) → (A → ⊥) → Says r B → Says r (A ⊎ B)
says_other A B true d b = inr b
says_other A B false d e = ⊎_elim d e
