-- What stands at the start of a part of a reel stands at the place where the part begins, with its offsets counted from the reel's first
-- byte. Assumes nothing.
use Rattle.std.specs.Prelude.{◌≡◌, List, ℕ, ◌+◌, ◌-◌, ◌≤◌, length, get_or, drop}
use Rattle.std.proofs.Common.{sym, ap, ◌∙◌, subst, arith, length-drop, get_or-drop}
use Rattle.header.specs.Header.{byte_of, Marked, header_length, HeaderAt}
use Rattle.header.specs.Same.{same_marked, same_header}
use Rattle.header.specs.declared.Mark.{Mark}
use Rattle.header.specs.declared.Header.{Header}
use Rattle.reel.specs.Answer.{Said, tile, refused, tile_of}
use Rattle.reel.specs.Calls.{HeaderTold, refuses, no_line, tile_cut, stands, NextTold, ends, start_cut, no_mark, header_cut, headed}
use Rattle.reel.specs.Walk.{further, shifted}

module _ (reel : List ℕ) (at : ℕ) (h : at ≤ length reel) where
  -- the length and the bytes of the part
  long : length (drop at reel) ≡ length reel - at
  long = length-drop at reel

  byte : (n : ℕ) → byte_of (drop at reel) 0 n ≡ byte_of reel at n
  byte n = get_or-drop at reel (0 + n) 0 ∙ ap (λ (k : ℕ). get_or reel k 0) (omega arith)

  -- its mark and its header
  marked_part : (m : Mark) → Marked m reel at → Marked m (drop at reel) 0
  marked_part = same_marked (drop at reel) reel 0 at (λ n h. byte n)

  part_marked : (m : Mark) → Marked m (drop at reel) 0 → Marked m reel at
  part_marked = same_marked reel (drop at reel) at 0 (λ n h. sym (byte n))

  part_header : {g : Header} → HeaderAt (drop at reel) 0 g → HeaderAt reel at g
  part_header {g} there = same_header reel (drop at reel) at 0 (λ n h. sym (byte n)) (omega (arith, there.whole, long)) there

  -- what is said of it
  refused_at : {n : ℕ} → NextTold reel at (refused n at) → NextTold reel at (refused n (at + 0))
  refused_at {n} = subst (λ (k : ℕ). NextTold reel at (refused n k)) (omega arith)

  tile_at : (g : Header) → NextTold reel at (tile (tile_of g at)) → NextTold reel at (tile (further at (tile_of g 0)))
  tile_at g =
      let e : at + header_length g.mark ≡ at + (0 + header_length g.mark) = omega arith in
      subst (λ (k : ℕ). NextTold reel at (tile (record { kind = (tile_of g at).kind; number = g.number; p = g.p; l = g.l; first = g.first; second = g.second; at = k }))) e

  headed_part : {g : Header} {said : Said} → HeaderAt reel at g → HeaderTold (drop at reel) 0 g said → NextTold reel at (shifted at said)
  headed_part there (refuses j) = refused_at (headed there (refuses j))
  headed_part there (no_line j f) = refused_at (headed there (no_line j f))
  headed_part there (tile_cut j c f) = refused_at (headed there (tile_cut j c (λ w. f (omega (arith, w, long)))))
  headed_part {g} there (stands j c w) = tile_at g (headed there (stands j c (omega (arith, w, long))))

  pub part_told : {said : Said} → NextTold (drop at reel) 0 said → NextTold reel at (shifted at said)
  part_told (ends e) = ends (omega (arith, e, long))
  part_told (start_cut e f) = refused_at (start_cut (omega (arith, e, long)) (λ w. f (omega (arith, w, long))))
  part_told (no_mark w f) = refused_at (no_mark (omega (arith, w, long)) (λ m there. f m (marked_part m there)))
  part_told (header_cut m w there f) = refused_at (header_cut m (omega (arith, w, long)) (part_marked m there) (λ v. f (omega (arith, v, long))))
  part_told (headed there told) = headed_part (part_header there) told
