-- Laws of a number's decimal digits: it is what `io::decimal` makes, its value is the number, it has no leading zero, and 20 digits are
-- enough for every number of 64 bits. All of them go by the one law of induction `by_digits`. Assumes nothing.
use Rattle.std.specs.Prelude.{◌≡◌, Bool, true, false, List, [], ◌∷◌, ◌++◌, ltb, length, take, get_or}
use Rattle.std.proofs.Math.Path.{refl}
use Rattle.std.proofs.Common.{sym, ap, ◌∙◌, pow-suc, arith, ltb-true, ltb-false, lt-ltb, length-append}
use Prim.Native.Nat.{ℕ, zero, suc, ◌+◌, ◌-◌, ◌*◌, ◌/◌, ◌%◌, ◌^◌, ◌≤◌, ◌<◌}
use Rattle.std.proofs.Math.Nat.{one-le-pow}
use Rattle.std.proofs.Math.ListN.{get_or-append}
use Rattle.io.specs.Digits.{hex_digit_ascii, last_digits, IsDigitCount}
use Rattle.lettering.specs.Line.{digit, digits_up_to, decimal}

-- ---- induction

-- what holds of every number below 10 and its one digit, and, where it holds of n / 10 and its digits, of n and those digits with the last
-- one behind them, holds of every number and its digits
module _ (P : ℕ → List ℕ → Type 0) (one : (n : ℕ) → n < 10 → P n (digit n ∷ []))
    (longer : (n : ℕ) (front : List ℕ) → 10 ≤ n → P (n / 10) front → P n (front ++ (digit (n % 10) ∷ []))) where
  step : (more n : ℕ) → P (n / 10) (digits_up_to more (n / 10)) → (small : Bool) → ltb n 10 ≡ small
      → P n (elim small [ true ↦ digit n ∷ [] | false ↦ digits_up_to more (n / 10) ++ (digit (n % 10) ∷ []) ])
  step more n front true e = one n (ltb-true n 10 e)
  step more n front false e = longer n (digits_up_to more (n / 10)) (ltb-false n 10 e) front

  within : (more n : ℕ) → n ≤ more → P n (digits_up_to more n)
  unfolding digits_up_to
  within zero n h = one n (omega arith)
  within (suc more) n h = step more n (within more (n / 10) (omega arith)) (ltb n 10) refl

  pub by_digits : (n : ℕ) → P n (decimal n)
  unfolding decimal
  by_digits n = within n n (omega arith)

-- ---- what `io::decimal` makes

-- its sign for a digit is that of a listing's lines
glyph_is : (d : ℕ) → d < 10 → hex_digit_ascii d ≡ digit d
glyph_is d h = rw (lt-ltb d 10 h)

-- of k + 2 digits that are the fewest, the first stands for at least 10 ^ (k + 1)
least : (n k : ℕ) → IsDigitCount 10 1 n (suc (suc k)) → 10 ^ k * 10 ≤ n
least n k f = rw (ap (λ (x : ℕ). 10 ^ x) (let e : suc (suc k) - 1 ≡ suc k = omega arith in e), pow-suc) at (f.2 (omega arith))

-- the two cases of the induction
one_made : (n : ℕ) → n < 10 → (k : ℕ) → IsDigitCount 10 1 n k → last_digits 10 k n ≡ digit n ∷ []
one_made n h zero f = absurd (omega arith)
one_made n h (suc zero) f = rw (glyph_is (n % 10) (omega arith)) (ap (λ (d : ℕ). digit d ∷ []) (omega arith))
one_made n h (suc (suc k)) f = absurd (omega (arith, least n k f, one-le-pow k 10 (omega arith)))

longer_made : (n : ℕ) (front : List ℕ) → 10 ≤ n → ((k : ℕ) → IsDigitCount 10 1 (n / 10) k → last_digits 10 k (n / 10) ≡ front)
    → (k : ℕ) → IsDigitCount 10 1 n k → last_digits 10 k n ≡ front ++ (digit (n % 10) ∷ [])
longer_made n front h m zero f = absurd (omega arith)
longer_made n front h m (suc zero) f = absurd (omega arith)
longer_made n front h m (suc (suc k)) f =
    let before : suc k - 1 ≡ k = omega arith in
    let fewest : IsDigitCount 10 1 (n / 10) (suc k) = (omega arith, omega (arith, pow-suc 10 (suc k)), λ more. rw before (omega (arith, least n k f))) in
    rw (glyph_is (n % 10) (omega arith), m (suc k) fewest)

-- the fewest digits that hold a number are its decimal digits
pub made : (n k : ℕ) → IsDigitCount 10 1 n k → last_digits 10 k n ≡ decimal n
made = by_digits (λ n text. (k : ℕ) → IsDigitCount 10 1 n k → last_digits 10 k n ≡ text) one_made longer_made

-- ---- what the digits stand for

-- the number that digits stand for, behind others that stand for `front`
abbrev pub value_behind : ℕ → List ℕ → ℕ
value_behind front [] = front
value_behind front (sign ∷ signs) = value_behind (front * 10 + (sign - digit 0)) signs

abbrev pub value : List ℕ → ℕ
value = value_behind 0

value_last : (front : ℕ) (signs : List ℕ) (d : ℕ) → value_behind front (signs ++ (digit d ∷ [])) ≡ value_behind front signs * 10 + d
value_last front [] d = omega arith
value_last front (sign ∷ signs) d = value_last (front * 10 + (sign - digit 0)) signs d

pub value_is : (n : ℕ) → value (decimal n) ≡ n
value_is = by_digits (λ n text. value text ≡ n) (λ n h. omega arith)
    (λ n front h e. value_last 0 front (n % 10) ∙ rw e (omega arith))

-- so two numbers with the same digits are the same number
pub decimal_once : (m n : ℕ) → decimal m ≡ decimal n → m ≡ n
decimal_once m n e = sym (value_is m) ∙ ap value e ∙ value_is n

-- ---- no leading zero

pub no_leading_zero : (n : ℕ) → (0 < length (decimal n)) × (get_or (decimal n) 0 0 ≡ digit 0 → n ≡ 0)
no_leading_zero = by_digits (λ n text. (0 < length text) × (get_or text 0 0 ≡ digit 0 → n ≡ 0)) (λ n h. (omega arith, λ e. omega arith))
    (λ n front h f. (
      omega (arith, length-append front (digit (n % 10) ∷ [])),
      λ e. let first = f.1 (sym (get_or-append front (digit (n % 10) ∷ []) 0 0 f.0) ∙ e) in omega arith,
    ))

-- ---- how many there are

longer_length : (n : ℕ) (front : List ℕ) → 10 ≤ n → ((k : ℕ) → 0 < k → n / 10 < 10 ^ k → length front ≤ k)
    → (k : ℕ) → 0 < k → n < 10 ^ k → length (front ++ (digit (n % 10) ∷ [])) ≤ k
longer_length n front h m zero some fits = omega arith
longer_length n front h m (suc zero) some fits = omega arith
longer_length n front h m (suc (suc k)) some fits =
    omega (arith, length-append front (digit (n % 10) ∷ []), m (suc k) (omega arith) (omega (arith, pow-suc 10 (suc k))))

-- a number below 10 ^ k has at most k digits
pub length_at_most : (n k : ℕ) → 0 < k → n < 10 ^ k → length (decimal n) ≤ k
length_at_most = by_digits (λ n text. (k : ℕ) → 0 < k → n < 10 ^ k → length text ≤ k) (λ n h k some fits. omega arith) longer_length

-- and every number of 64 bits at most 20
pub at_most_20 : (n : ℕ) → n < 2 ^ 64 → length (decimal n) ≤ 20
at_most_20 n h = length_at_most n 20 (omega arith) (omega arith)

-- what `io::decimal` puts into its caller's bytes for a number of 64 bits, by its contract
pub spelled : (out : List ℕ) (n k : ℕ) → n < 2 ^ 64 → IsDigitCount 10 1 n k → take k out ≡ last_digits 10 k n
    → (take k out ≡ decimal n) × (length (take k out) ≤ 20)
spelled out n k h fewest e = let d = e ∙ made n k fewest in (d, rw d (at_most_20 n h))
