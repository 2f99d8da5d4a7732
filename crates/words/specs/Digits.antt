-- A number as the code reads it: what is held once the first i signs are read, and what one more comes to. Assumes nothing.
use Rattle.std.specs.Prelude.{◌≡◌, refl, Ok, Err, List, [], ◌∷◌, ◌++◌, ℕ, ◌+◌, ◌*◌, ◌-◌, ◌≤◌, ◌<◌, length, get_or, take}
use Prim.Native.Char.{code}
use Rattle.std.proofs.Common.{arith, add-one, below_more, take-suc, take_all}
use Rattle.std.proofs.Math.Decide.{dec_le}
use Rattle.words.specs.Words.{Digit, Decimal, value_from, value_of, largest, AmountIs, value, too_large, no_number}
use Rattle.words.specs.declared.NoNumber.TheVariants.{TooLarge, NotDigits}

-- one more digit behind the others: ten times what they come to, and the digit
pub value_more : (before : ℕ) (word : List ℕ) (sign : ℕ)
    → value_from before (word ++ (sign ∷ [])) ≡ 10 * value_from before word + (sign - code "0")
unfolding value_from
value_more before [] sign = refl
value_more before (first ∷ rest) sign = value_more (10 * before + (first - code "0")) rest sign

pub value_step : (word : List ℕ) (i : ℕ) → i < length word
    → value_of (take (i + 1) word) ≡ 10 * value_of (take i word) + (get_or word i 0 - code "0")
value_step word i h = rw (add-one, take-suc word i 0) (value_more 0 (take i word) (get_or word i 0))

-- what is held once the first i signs are read: they are digits, and n is what they come to, or both are above the largest number
pub record Held (word : List ℕ) (n i : ℕ) : Type 0 where
  pub within : i ≤ length word
  pub digits : (k : ℕ) → k < i → Digit (get_or word k 0)
  pub low : n ≤ largest → value_of (take i word) ≡ n
  pub high : largest < n → largest < value_of (take i word)

-- before the first sign
pub held_first : (word : List ℕ) → Held word 0 0
unfolding value_from
held_first word = record { within = omega arith; digits = λ k h. absurd (omega arith); low = λ h. refl; high = λ h. absurd (omega arith) }

-- and one sign on, which is a digit: the code adds it to n, or leaves n as it is if that is above the largest number already
module _ (word : List ℕ) (n m i : ℕ) (held : Held word n i) (inside : i < length word) (here : Digit (get_or word i 0)) where
  step : value_of (take (i + 1) word) ≡ 10 * value_of (take i word) + (get_or word i 0 - code "0")
  step = value_step word i inside

  pub held_more : (n ≤ largest → m ≡ n * 10 + (get_or word i 0 - code "0")) → (largest < n → m ≡ n) → Held word m (i + 1)
  held_more add stay = record {
    within = omega arith;
    digits = below_more _ i held.digits here;
    low = low (dec_le n largest);
    high = high (dec_le n largest);
  }
    where
      low : Dec (n ≤ largest) → m ≤ largest → value_of (take (i + 1) word) ≡ m
      low (yes h) l = omega (arith, step, held.low h, add h)
      low (no h) l = absurd (omega (arith, stay (omega arith)))

      high : Dec (n ≤ largest) → largest < m → largest < value_of (take (i + 1) word)
      high (yes h) l = omega (arith, step, held.low h, add h)
      high (no h) l = omega (arith, step, held.high (omega arith))

-- at the end n is the value ..
module _ (word : List ℕ) (n i : ℕ) (held : Held word n i) (end : length word ≤ i) (some : 1 ≤ length word) where
  decimal : Decimal word
  decimal = record { some = some; digits = λ k h. held.digits k (omega arith) }

  pub is_value : n ≤ largest → AmountIs word (Ok n)
  is_value h = value decimal (rw (take_all i word) at (held.low h)) h

  -- .. or the value is too large
  pub is_large : largest < n → AmountIs word (Err TooLarge)
  is_large h = too_large decimal (rw (take_all i word) at (held.high h))

-- a word with a sign that is no digit is no number, and so is one without signs
pub not_digit : (word : List ℕ) (i : ℕ) → i < length word → (Digit (get_or word i 0) → ⊥) → AmountIs word (Err NotDigits)
not_digit word i h f = no_number (λ d. f (d.digits i h))

pub empty : (word : List ℕ) → length word ≡ 0 → AmountIs word (Err NotDigits)
empty word e = no_number (λ d. omega (arith, d.some))
