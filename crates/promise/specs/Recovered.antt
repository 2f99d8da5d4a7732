-- WHAT RECOVER AND INSPECT GIVE (SPEC 5.6 and 5.7), over the contracts of repair and read: recover says what repair says, and leaves the
-- text that read gives after repair of a copy; what was written comes back, though a line of it was hurt. Assumes nothing.
use Rattle.std.specs.Prelude.{◌≡◌, refl, ◌⊎◌, ◌↔◌, List, ℕ, length}
use Rattle.std.proofs.Common.{ap, ◌∙◌, inl, inr, ⊎_elim}
use Rattle.residue.specs.Size.{Size, Allowed}
use Rattle.code.specs.Kind.{Takes}
use Rattle.code.specs.Tile.{tile_length, text_length, Good, text_of, EqualOutside}
use Rattle.code.specs.declared.Kind.{Kind}
use Rattle.code.specs.declared.Line.{Line}
use Rattle.promise.specs.Answer.{Said, done, clean, refused}
use Rattle.promise.specs.Calls.{BothLengths, WriteTold, ReadTold, RepairTold, InspectTold, Granted, RecoverTold}
use Rattle.promise.specs.Admit.{admits, admitted_well, admitted_no, admitted_some, admitted_more}
use Rattle.promise.specs.Name.{granted_clean}
use Rattle.promise.specs.Once.{read_told_once, repair_told_once, inspect_told_once, recover_told_once}
use Rattle.promise.specs.Kinds.{recover_sure}
use Rattle.promise.specs.Carry.{repaired_good}
use Rattle.promise.specs.Promise.{repair_or_doubt}

-- ---- the answer

-- ALL THREE SAY THE SAME of a scan: inspect says what repair says ..
pub inspected_repair : {k : Kind} {p l : ℕ} {scan tile : List ℕ} {said repaired : Said} → InspectTold k p l scan said → RepairTold k p l scan repaired tile
    → said ≡ repaired
inspected_repair {k} {p} {l} {scan} {tile} {said} {repaired} t u = inspect_told_once k p l scan said repaired t (record { tile = tile; told = u })

module _ {k : Kind} {p l : ℕ} {scan text : List ℕ} where
  -- .. and recover, lent a text of the right length, what inspect may say ..
  pub recover_inspects : {said : Said} {new : List ℕ} → length text ≡ text_length p → RecoverTold k p l scan text said new → InspectTold k p l scan said
  recover_inspects e (RecoverTold.refuses h) = record { tile = scan; told = RepairTold.refuses (admitted_more (λ size. (size, e)) h) }
  recover_inspects e (RecoverTold.unrepaired h t) = t
  recover_inspects e (RecoverTold.recovers {said} {tile} h d t) = record { tile = tile; told = t }

  -- .. so what repair says, and what inspect says
  pub recovered_repair : {said repaired : Said} {new tile : List ℕ} → length text ≡ text_length p → RecoverTold k p l scan text said new
      → RepairTold k p l scan repaired tile → said ≡ repaired
  recovered_repair e t u = inspected_repair (recover_inspects e t) u

  pub recovered_inspect : {said inspected : Said} {new : List ℕ} → length text ≡ text_length p → RecoverTold k p l scan text said new
      → InspectTold k p l scan inspected → said ≡ inspected
  recovered_inspect e t u = recovered_repair e t u.told

  -- ---- the text

  -- it is that of the tile which repair leaves of a copy
  pub recovered_text : {said repaired : Said} {new tile : List ℕ} → Granted said → RecoverTold k p l scan text said new → RepairTold k p l scan repaired tile
      → new ≡ text_of p tile
  recovered_text granted (RecoverTold.refuses {n} h) u = absurd (granted n refl)
  recovered_text granted (RecoverTold.unrepaired {n} h t) u = absurd (granted n refl)
  recovered_text {said} {repaired} {tile = tile} granted (RecoverTold.recovers {tile = left} h d t) u =
      ap (text_of p) (repair_told_once k p l scan said repaired left tile t u).1

  -- THE TEXT IS WHAT READ GIVES AFTER REPAIR OF A COPY: repair says the same, read is done, and its text is this one
  pub recovered_read : {said repaired read : Said} {new tile page page' : List ℕ} → Granted said → RecoverTold k p l scan text said new
      → RepairTold k p l scan repaired tile → length page ≡ text_length p → ReadTold k p l tile page read page'
      → (repaired ≡ said) × (read ≡ done) × (page' ≡ new)
  recovered_read granted (RecoverTold.refuses {n} h) u e r = absurd (granted n refl)
  recovered_read granted (RecoverTold.unrepaired {n} h t) u e r = absurd (granted n refl)
  recovered_read {said} {repaired} {read} {tile = tile} {page} {page'} granted (RecoverTold.recovers {tile = left} h d t) u e r =
      let w = admitted_well h in
      let same = repair_told_once k p l scan repaired said tile left u t in
      let good = repaired_good d t in
      let again = read_told_once k p l left page read done page' (text_of p left) (rw same.1 at r) (ReadTold.reads (admits w.0 w.1 (good.0, e)) good.1) in
      (same.0, again.0, again.1)

  -- OF A GOOD TILE IT IS WHAT READ GIVES, lent the same text: recover says clean where read is done, and both leave the same bytes
  pub recovered_good : {said read : Said} {new page : List ℕ} → Good p l scan → RecoverTold k p l scan text said new → ReadTold k p l scan text read page
      → ((said ≡ clean) ↔ (read ≡ done)) × (new ≡ page)
  recovered_good {said} {new = new} g t (ReadTold.refuses {n} h) =
      let e = recover_told_once k p l scan text said (refused n) new text t (RecoverTold.refuses h) in ((λ q. cc, λ q. cc), e.1)
  recovered_good g t (ReadTold.not_good h f) = absurd (f g)
  recovered_good {said} {new = new} g t (ReadTold.reads h f) =
      let e = recover_told_once k p l scan text said clean new (text_of p scan) t
      (RecoverTold.recovers h granted_clean (RepairTold.is_good (admitted_some (λ l. l.0) h) g)) in
      ((λ q. refl, λ q. e.0), e.1)

-- ---- what was written

module _ {k : Kind} {p l : ℕ} {text tile written scan page : List ℕ} (a : Line) (w : WriteTold k p l text tile done written)
    (e : length scan ≡ tile_length p) (f : length page ≡ text_length p) (same : EqualOutside p a written scan) where
  -- WHAT WAS WRITTEN COMES BACK, though one line of the tile was hurt; or, on an old tile, it is doubtful and the page stays
  pub recovered_written : {said : Said} {new : List ℕ} → RecoverTold k p l scan page said new
      → ((new ≡ text) × Granted said) ⊎ ((said ≡ refused 8) × (new ≡ page))
  recovered_written t = go w t
    where
      go : {said : Said} {new : List ℕ} → WriteTold k p l text tile done written → RecoverTold k p l scan page said new
          → ((new ≡ text) × Granted said) ⊎ ((said ≡ refused 8) × (new ≡ page))
      go {said} {new} (WriteTold.writes h written_is) t = known t
        where
          s : Size p × Takes k p l × BothLengths p tile text
          s = admitted_well h

          repaired : {said : Said} {left : List ℕ} → RepairTold k p l scan said left → ((left ≡ written) × Granted said) ⊎ (said ≡ refused 8)
          repaired = repair_or_doubt k p l a written scan s.0 written_is.size e written_is.good same s.1

          known : {said : Said} {new : List ℕ} → RecoverTold k p l scan page said new → ((new ≡ text) × Granted said) ⊎ ((said ≡ refused 8) × (new ≡ page))
          known (RecoverTold.refuses i) = absurd (admitted_no i (s.0, s.1, (e, f)))
          known (RecoverTold.unrepaired {n} i t) = ⊎_elim (λ q. absurd (q.1 n refl)) (λ q. inr (q, refl)) (repaired t.told)
          known (RecoverTold.recovers i d t) = ⊎_elim (λ q. inl (ap (text_of p) q.0 ∙ written_is.has, d)) (λ q. absurd (d 8 q)) (repaired t)

  -- AT AN ALLOWED SLOPE it always does
  pub recovered_allowed : {said : Said} {new : List ℕ} → Allowed p l → RecoverTold k p l scan page said new → (new ≡ text) × Granted said
  recovered_allowed {said} {new} allowed t =
      ⊎_elim (λ q. q) (λ q. absurd (recover_sure allowed (rw q.0 at t))) (recovered_written t)
