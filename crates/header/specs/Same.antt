-- The header that stands at a place; and where the same bytes stand, the same one stands. Assumes nothing.
use Rattle.std.specs.Prelude.{◌≡◌, refl, List, ℕ, ◌+◌, ◌≤◌, ◌<◌, length}
use Rattle.std.proofs.Common.{sym, ◌∙◌, arith}
use Rattle.record.specs.Number.{big_endian, big_endian_long}
use Rattle.flag.specs.Flag.{flag_of}
use Rattle.header.specs.Header.{byte_of, Marked, header_length, size_of, slope_of, number_of, flag_at, HeaderAt}
use Rattle.header.specs.Laid.{counted}
use Rattle.header.specs.declared.Mark.{Mark}
use Rattle.header.specs.declared.Mark.TheVariants.{Plain, Flagged, Old}
use Rattle.header.specs.declared.Header.{Header}

module _ (a b : List ℕ) (i j : ℕ) where
  -- so many bytes from the two places on are the same
  abbrev pub SameBytes : ℕ → Type 0
  SameBytes count = (n : ℕ) → n < count → byte_of a i n ≡ byte_of b j n

  pub same_marked : SameBytes 10 → (m : Mark) → Marked m b j → Marked m a i
  same_marked same Plain m = (same 0 (omega arith) ∙ m.0, same 1 (omega arith) ∙ m.1)
  same_marked same Flagged m = (same 0 (omega arith) ∙ m.0, same 1 (omega arith) ∙ m.1)
  same_marked same Old m = (same 0 (omega arith) ∙ m.0, same 1 (omega arith) ∙ m.1)

  module _ (m : Mark) (same : SameBytes (header_length m)) where
    byte : (n : ℕ) → n < 10 → byte_of a i n ≡ byte_of b j n
    byte n h = same n (omega (arith, (counted m).0))

    same_size : size_of a i ≡ size_of b j
    same_size = λ k. big_endian (byte 2 (omega arith) k) (byte 3 (omega arith) k)

    same_slope : slope_of a i ≡ slope_of b j
    same_slope = λ k. big_endian (byte 4 (omega arith) k) (byte 5 (omega arith) k)

    same_number : number_of a i ≡ number_of b j
    same_number = λ k. big_endian_long (byte 6 (omega arith) k) (byte 7 (omega arith) k) (byte 8 (omega arith) k) (byte 9 (omega arith) k)

  same_flag : (m : Mark) (n : ℕ) → n + 2 ≤ 14 → SameBytes (header_length m) → flag_at m a i n ≡ flag_at m b j n
  same_flag Plain n h same = refl
  same_flag Flagged n h same = λ k. flag_of (big_endian (same n (omega arith) k) (same (n + 1) (omega arith) k))
  same_flag Old n h same = refl

  pub same_header : {h : Header} → SameBytes (header_length h.mark) → i + header_length h.mark ≤ length a → HeaderAt b j h → HeaderAt a i h
  same_header {h} same whole there = record {
    marked = same_marked (byte h.mark same) h.mark there.marked;
    whole = whole;
    size = there.size ∙ sym (same_size h.mark same);
    slope = there.slope ∙ sym (same_slope h.mark same);
    number = there.number ∙ sym (same_number h.mark same);
    first = there.first ∙ sym (same_flag h.mark 10 (omega arith) same);
    second = there.second ∙ sym (same_flag h.mark 12 (omega arith) same);
  }

-- what the header at a place says, if it has this mark and is whole
abbrev pub header_of : List ℕ → ℕ → Mark → Header
header_of reel at m = record { mark = m; p = size_of reel at; l = slope_of reel at; number = number_of reel at; first = flag_at m reel at 10; second = flag_at m reel at 12 }

pub header_there : (reel : List ℕ) (at : ℕ) (m : Mark) → Marked m reel at → at + header_length m ≤ length reel → HeaderAt reel at (header_of reel at m)
header_there reel at m there whole = record { marked = there; whole = whole; size = refl; slope = refl; number = refl; first = refl; second = refl }
