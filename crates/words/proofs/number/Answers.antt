-- `words::number` meets its contract. The loop's invariant: the signs before i are digits, and n is what they come to, or both are above
-- the largest number.
use Rattle.std.proofs.Common.{arith, inl, inr}
use Rattle.std.proofs.lemmas.Bool.Decides.{nat_tests}
use Rattle.words.specs.Digits.{held_first, held_more, is_value, is_large, not_digit, empty}
use Rattle.words.proofs.number.Goals as goal
use Rattle.words.proofs.number.Goals.{then-n-le-LARGEST, else-n-le-LARGEST}

pub returns-then-is_empty : goal.returns-then-is_empty
returns-then-is_empty c =
    empty _ (grind (arith, nat_tests))

pub loop-sign-init : goal.loop-sign-init
loop-sign-init c =
    held_first _

pub returns-then-not-is_ascii_digit : goal.returns-then-not-is_ascii_digit
returns-then-not-is_ascii_digit c =
    let outside = rw c.if-not-is_ascii_digit.true at c.is_ascii_digit.ensures.cases in
    not_digit _ c.loop-sign.sign-index c.loop-sign-test.true (λ d. elim outside [ inl h ↦ omega arith | inr h ↦ omega arith ])

pub loop-sign-preserved : goal.loop-sign-preserved
loop-sign-preserved c =
    held_more
    _
    c.loop-sign.n
    c.if-n-le-LARGEST.n
    c.loop-sign.sign-index
    c.loop-sign.invariant
    c.loop-sign-test.true
    (rw c.if-not-is_ascii_digit.false at c.is_ascii_digit.ensures.cases)
    (λ h. elim c.if-n-le-LARGEST.branch [ then-n-le-LARGEST w ↦ omega arith | else-n-le-LARGEST w ↦ omega arith ])
    (λ h. elim c.if-n-le-LARGEST.branch [ then-n-le-LARGEST w ↦ omega arith | else-n-le-LARGEST w ↦ omega arith ])

pub returns-then-n-gt-LARGEST : goal.returns-then-n-gt-LARGEST
returns-then-n-gt-LARGEST c =
    is_large _ c.loop-sign.n c.loop-sign.sign-index c.loop-sign.invariant c.loop-sign-test.false (grind (arith, nat_tests)) c.if-n-gt-LARGEST.true

pub returns : goal.returns
returns c =
    is_value _ c.loop-sign.n c.loop-sign.sign-index c.loop-sign.invariant c.loop-sign-test.false (grind (arith, nat_tests)) c.if-n-gt-LARGEST.false
