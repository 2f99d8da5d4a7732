-- The line and the flag that a number stands for: which they are, and that the number and the flag give each other back. Assumes nothing.
use Rattle.code.specs.declared.Line.{Line}
use Rattle.std.specs.Prelude.{◌≡◌, refl, Bool, true, false, ◌≢◌, ℕ, ◌+◌, ◌-◌, ◌≤◌, ◌<◌, ltb, Option, Some, None}
use Rattle.std.proofs.Common.{sym, ap, ◌∙◌, arith, ltb-true, ltb-false, lt-ltb, le-ltb, ne_eqb}
use Rattle.std.proofs.Math.Decide.{ℕ_discrete}
use Rattle.code.specs.declared.Line.TheVariants.{Row, Column}
use Rattle.flag.specs.Flag.{line_of, flag_of, flag_number, Short}

-- below 8000 hex it is a row, and from there on a column
pub line_row : (n : ℕ) → n < 0x8000 → Row n ≡ line_of n
unfolding line_of
line_row n h = rw (lt-ltb n 0x8000 h) refl

pub line_column : (n : ℕ) → 0x8000 ≤ n → Column (n - 0x8000) ≡ line_of n
unfolding line_of
line_column n h = rw (le-ltb n 0x8000 h) refl

-- FFFF hex is none, and what is not is the line
pub flag_none : None ≡ flag_of 0xFFFF
unfolding flag_of
flag_none = refl

pub flag_lost : (n : ℕ) → n ≢ 0xFFFF → Some (line_of n) ≡ flag_of n
unfolding flag_of
flag_lost n d = rw (ne_eqb n 0xFFFF d) refl

-- the number of a flag stands for it ..
pub flag_back : (f : Option Line) → Short f → flag_of (flag_number f) ≡ f
flag_back None s = sym flag_none
flag_back (Some (Row r)) s = sym (flag_lost r (λ e. omega (arith, e, s))) ∙ ap Some (sym (line_row r (omega (arith, s))))
flag_back (Some (Column c)) s =
    let back : 0x8000 + c - 0x8000 ≡ c = omega arith in
    sym (flag_lost (0x8000 + c) (λ e. omega (arith, e, s))) ∙ ap Some (sym (line_column (0x8000 + c) (omega arith)) ∙ ap Column back)

-- .. so no two have the same
pub flag_once : (a b : Option Line) → Short a → Short b → flag_number a ≡ flag_number b → a ≡ b
flag_once a b s t e = sym (flag_back a s) ∙ ap flag_of e ∙ flag_back b t

-- and the flag that a number stands for has that number
pub number_back : (n : ℕ) → flag_number (flag_of n) ≡ n
number_back n = go (ℕ_discrete n 0xFFFF)
  where
    lost : (t : Bool) → ltb n 0x8000 ≡ t → flag_number (Some (line_of n)) ≡ n
    lost true e = rw (sym (line_row n (ltb-true n 0x8000 e))) refl
    lost false e = rw (sym (line_column n (ltb-false n 0x8000 e))) (omega (arith, ltb-false n 0x8000 e))

    go : Dec (n ≡ 0xFFFF) → flag_number (flag_of n) ≡ n
    go (yes e) = rw (e, sym flag_none) refl
    go (no d) = rw (sym (flag_lost n d)) (lost (ltb n 0x8000) refl)

-- a flag's number fits two bytes
pub number_fits : (f : Option Line) → Short f → flag_number f < 0x10000
number_fits None s = omega arith
number_fits (Some (Row r)) s = omega (arith, s)
number_fits (Some (Column c)) s = omega (arith, s)
