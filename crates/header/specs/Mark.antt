-- The mark of a record: it has one at most, and as a number of two bytes it tells which; so one header at most stands at a place.
-- Assumes nothing.
use Rattle.std.specs.Prelude.{◌≡◌, refl, List, ℕ, ◌+◌, ◌<◌, get_or}
use Rattle.std.proofs.Common.{sym, ap, ◌∙◌, arith}
use Rattle.record.specs.Number.{big_endian}
use Rattle.flag.specs.Flag.{flag_of}
use Rattle.header.specs.Header.{byte_of, Marked, flag_at, HeaderAt}
use Rattle.header.specs.Laid.{mark_number}
use Rattle.header.specs.declared.Mark.{Mark}
use Rattle.header.specs.declared.Mark.TheVariants.{Plain, Flagged, Old}
use Rattle.header.specs.declared.Header.{Header}

-- a record has one mark at most
pub one_mark : (reel : List ℕ) (at : ℕ) (j k : Mark) → Marked j reel at → Marked k reel at → j ≡ k
one_mark reel at Plain Plain a b = refl
one_mark reel at Plain Flagged a b = absurd (omega (arith, a.1, b.1))
one_mark reel at Plain Old a b = absurd (omega (arith, a.0, b.0))
one_mark reel at Flagged Plain a b = absurd (omega (arith, a.1, b.1))
one_mark reel at Flagged Flagged a b = refl
one_mark reel at Flagged Old a b = absurd (omega (arith, a.0, b.0))
one_mark reel at Old Plain a b = absurd (omega (arith, a.0, b.0))
one_mark reel at Old Flagged a b = absurd (omega (arith, a.0, b.0))
one_mark reel at Old Old a b = refl

-- at a place one header stands at most
pub one_header : {reel : List ℕ} {at : ℕ} {g h : Header} → HeaderAt reel at g → HeaderAt reel at h → g ≡ h
one_header {reel} {at} {g} {h} a b =
    let mark = one_mark reel at g.mark h.mark a.marked b.marked in
    let p : g.p ≡ h.p = a.size ∙ sym b.size in
    let l : g.l ≡ h.l = a.slope ∙ sym b.slope in
    let number : g.number ≡ h.number = a.number ∙ sym b.number in
    let first : g.first ≡ h.first = a.first ∙ ap (λ (m : Mark). flag_at m reel at 10) mark ∙ sym b.first in
    let second : g.second ≡ h.second = a.second ∙ ap (λ (m : Mark). flag_at m reel at 12) mark ∙ sym b.second in
    λ i. record { mark = mark i; p = p i; l = l i; number = number i; first = first i; second = second i }

-- what the number of a record's first two bytes says of its mark
module _ (reel : List ℕ) (at n : ℕ) (is : n ≡ big_endian (get_or reel at 0) (byte_of reel at 1)) (high : get_or reel at 0 < 256) (low : byte_of reel at 1 < 256) where
  first_byte : get_or reel at 0 ≡ byte_of reel at 0
  first_byte = ap (λ (k : ℕ). get_or reel k 0) (omega arith)

  pub number_marked : (m : Mark) → n ≡ mark_number m → Marked m reel at
  number_marked Plain e = (omega (arith, first_byte), omega arith)
  number_marked Flagged e = (omega (arith, first_byte), omega arith)
  number_marked Old e = (omega (arith, first_byte), omega arith)

  marked_number : (m : Mark) → Marked m reel at → n ≡ mark_number m
  marked_number Plain m = omega (arith, first_byte, m.0, m.1)
  marked_number Flagged m = omega (arith, first_byte, m.0, m.1)
  marked_number Old m = omega (arith, first_byte, m.0, m.1)

  pub no_mark : (n ≡ mark_number Plain → ⊥) → (n ≡ mark_number Flagged → ⊥) → (n ≡ mark_number Old → ⊥) → (m : Mark) → Marked m reel at → ⊥
  no_mark f g h Plain m = f (marked_number Plain m)
  no_mark f g h Flagged m = g (marked_number Flagged m)
  no_mark f g h Old m = h (marked_number Old m)

-- a flag is that of the number of its two bytes
pub flag_there : (reel : List ℕ) (at offset n : ℕ) → n ≡ big_endian (get_or reel (at + offset) 0) (get_or reel (at + offset + 1) 0)
    → flag_of n ≡ flag_at Flagged reel at offset
flag_there reel at offset n e = ap flag_of (e ∙ ap (λ (k : ℕ). big_endian (byte_of reel at offset) (get_or reel k 0)) (omega arith))
