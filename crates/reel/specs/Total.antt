-- At every place of every reel something stands: a tile, the end, or a refusal. Assumes nothing.
use Rattle.std.specs.Prelude.{◌≡◌, refl, Bool, true, false, ◌⊎◌, List, ℕ, ◌+◌, ◌≤◌, ◌<◌, leb}
use Rattle.std.proofs.Common.{inl, inr, arith, leb-true, leb-false}
use Rattle.std.proofs.Math.Decide.{ℕ_discrete}
use Rattle.std.proofs.Math.ListN.{length}
use Rattle.code.specs.Tile.{tile_length}
use Rattle.size.specs.Answer as size
use Rattle.size.specs.Total.{judged_total}
use Rattle.header.specs.Header.{byte_of, Marked, kind_of, header_length, Carries}
use Rattle.header.specs.Carry.{both_or_not, carries_or_not}
use Rattle.header.specs.Same.{header_of, header_there}
use Rattle.header.specs.declared.Mark.{Mark}
use Rattle.header.specs.declared.Mark.TheVariants.{Plain, Flagged, Old}
use Rattle.header.specs.declared.Header.{Header}
use Rattle.reel.specs.Answer.{Said, tile, end, refused, tile_of}
use Rattle.reel.specs.Calls.{StartWhole, HeaderJudged, HeaderTold, refuses, no_line, tile_cut, stands, NextTold, ends, start_cut, no_mark, header_cut, headed}

-- a count of bytes fits another, or does not
fits_or_not : (a b : ℕ) → (a ≤ b) ⊎ (b < a)
fits_or_not a b = go (leb a b) refl
  where
    go : (t : Bool) → leb a b ≡ t → (a ≤ b) ⊎ (b < a)
    go true e = inl (leb-true a b e)
    go false e = inr (leb-false a b e)

module _ (reel : List ℕ) (at : ℕ) where
  -- a record has a mark, or does not ..
  marked_or_not : (m : Mark) → Dec (Marked m reel at)
  marked_or_not Plain = both_or_not (ℕ_discrete (byte_of reel at 0) 0xD5) (ℕ_discrete (byte_of reel at 1) 0x5D)
  marked_or_not Flagged = both_or_not (ℕ_discrete (byte_of reel at 0) 0xD5) (ℕ_discrete (byte_of reel at 1) 0x5E)
  marked_or_not Old = both_or_not (ℕ_discrete (byte_of reel at 0) 0x5D) (ℕ_discrete (byte_of reel at 1) 0xD5)

  -- .. and so it has one of the three, or none
  some_mark : Dec ((m : Mark) × Marked m reel at)
  some_mark = go (marked_or_not Plain) (marked_or_not Flagged) (marked_or_not Old)
    where
      go : Dec (Marked Plain reel at) → Dec (Marked Flagged reel at) → Dec (Marked Old reel at) → Dec ((m : Mark) × Marked m reel at)
      go (yes m) other third = yes (Plain, m)
      go (no f) (yes m) third = yes (Flagged, m)
      go (no f) (no g) (yes m) = yes (Old, m)
      go (no f) (no g) (no h) = no (λ m. neither m.0 m.1)
        where
          neither : (m : Mark) → Marked m reel at → ⊥
          neither Plain m = f m
          neither Flagged m = g m
          neither Old m = h m

  module _ (h : Header) where
    Answered : Type 0
    Answered = (said : Said) × HeaderTold reel at h said

    flags : HeaderJudged h size.well → Dec (Carries h) → Answered
    unfolding Answered
    flags j (no f) = (refused 4 at, no_line j f)
    flags j (yes c) = body (fits_or_not (at + header_length h.mark + tile_length h.p) (length reel))
      where
        body : (at + header_length h.mark + tile_length h.p ≤ length reel) ⊎ (length reel < at + header_length h.mark + tile_length h.p) → (said : Said) × HeaderTold reel at h said
        body (inl w) = (tile (tile_of h at), stands j c w)
        body (inr d) = (refused 7 at, tile_cut j c (λ w. omega (arith, w, d)))

    judged : (said : size.Said) → HeaderJudged h said → Answered
    unfolding Answered
    judged (size.slope _) j = elim j [ ]
    judged size.well j = flags j (carries_or_not h)
    judged (size.refused n) j = (refused n at, refuses j)

    pub header_total : (said : Said) × HeaderTold reel at h said
    unfolding Answered
    header_total = let j = judged_total (kind_of h.mark) h.p h.l in judged j.0 j.1

  pub next_total : (said : Said) × NextTold reel at said
  next_total = go (fits_or_not (length reel) at)
    where
      read : (m : Mark) → StartWhole reel at → Marked m reel at → (at + header_length m ≤ length reel) ⊎ (length reel < at + header_length m) → (said : Said) × NextTold reel at said
      read m s there (inl w) = let t = header_total (header_of reel at m) in (t.0, headed (header_there reel at m there w) t.1)
      read m s there (inr c) = (refused 7 at, header_cut m s there (λ w. omega (arith, w, c)))

      start : StartWhole reel at → Dec ((m : Mark) × Marked m reel at) → (said : Said) × NextTold reel at said
      start s (yes m) = read m.0 s m.1 (fits_or_not (at + header_length m.0) (length reel))
      start s (no f) = (refused 6 at, no_mark s (λ m there. f (m, there)))

      whole : at < length reel → (at + 10 ≤ length reel) ⊎ (length reel < at + 10) → (said : Said) × NextTold reel at said
      whole h (inl w) = start w some_mark
      whole h (inr c) = (refused 7 at, start_cut h (λ w. omega (arith, w, c)))

      go : (length reel ≤ at) ⊎ (at < length reel) → (said : Said) × NextTold reel at said
      go (inl e) = (end, ends e)
      go (inr h) = whole h (fits_or_not (at + 10) (length reel))
