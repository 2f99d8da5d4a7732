-- How a form is put on a page sign by sign. Assumes nothing.
use Rattle.std.specs.Prelude.{◌≡◌, refl, Option, Some, None, List, [], ◌∷◌, ◌++◌, ℕ, ◌+◌, ◌≤◌, ◌<◌, length, drop}
use Rattle.std.specs.Option.{unwrap_or, option_copied}
use Rattle.std.proofs.Math.Path.{sym}
use Rattle.std.proofs.Common.{ap, ◌∙◌, append_assoc, append-nil, add-one, arith, drop_of_length-le, Iter, Bor}
use Rattle.std.proofs.lemmas.Fn.{fronts}
use Prim.Native.Char.{code}
use Rattle.std.proofs.Math.ListN.{get_or}
use borrow.Author.Tests.{ne_eqb}
use Rattle.lettering.specs.Line.{decimal}
use Rattle.std.proofs.Math.Seq.{drop-cons}
use Rattle.page.specs.Page.{Puts, PutOn, sign_filled, taken, filled, sign_room, room}
use Rattle.page.specs.declared.Page.{Page}
use Rattle.page.specs.Then.{puts_nothing, ◌then◌}

-- the first i signs of a form are put, and of its numbers some are left: what stands on the page and what is left of the form make the
-- whole
pub record Filling (form numbers : List ℕ) (page new : Page) (rest : List ℕ) (i : ℕ) : Type 0 where
  pub text : List ℕ
  pub puts : Puts page.bytes.now page.used text new.used new.bytes.now
  pub whole : text ++ filled (drop i form) rest ≡ filled form numbers
  pub left : new.used + room (drop i form) ≤ page.used + room form
  pub same : new.bytes.ghost_name ≡ page.bytes.ghost_name
  pub within : i ≤ length form

-- the first of some numbers, or 0, and those that are left
no_number : (numbers : List ℕ) → length numbers ≡ 0 → (numbers ≡ drop 1 numbers) × (0 ≡ get_or numbers 0 0)
no_number [] e = (refl, refl)
no_number (n ∷ numbers) e = absurd (omega arith)

pub next_number : (before after : Iter ℕ) (r : Option (Bor ℕ)) → fronts before r after
    → (after.rest.now ≡ drop 1 before.rest.now) × (unwrap_or (option_copied r) 0 ≡ get_or before.rest.now 0 0)
next_number before after None f = rw f.1 (no_number before.rest.now f.0)
next_number before after (Some n) e = rw e (refl, refl)

module _ (form numbers : List ℕ) (page : Page) where
  -- none is put yet
  pub nothing_filled : Filling form numbers page page numbers 0
  nothing_filled = record { text = []; puts = puts_nothing page.bytes.now page.used; whole = refl; left = omega arith; same = refl; within = omega arith }

  -- what is left of the form at its next sign
  next_text : (rest : List ℕ) (i : ℕ) → i < length form
      → filled (drop i form) rest ≡ sign_filled (get_or form i 0) (get_or rest 0 0) ++ filled (drop (i + 1) form) (drop (taken (get_or form i 0)) rest)
  unfolding filled
  next_text rest i h = rw (add-one, drop-cons form i 0 h)

  pub next_room : (i : ℕ) → i < length form → room (drop i form) ≡ sign_room (get_or form i 0) + room (drop (i + 1) form)
  next_room i h = rw (add-one, drop-cons form i 0 h)

  -- one more is
  pub more_filled : {new last : Page} {rest : List ℕ} {i : ℕ} → Filling form numbers page new rest i → i < length form
      → PutOn (sign_room (get_or form i 0)) new (sign_filled (get_or form i 0) (get_or rest 0 0)) last
      → Filling form numbers page last (drop (taken (get_or form i 0)) rest) (i + 1)
  more_filled {rest = rest} {i = i} f h put = record {
    text = f.text ++ sign_filled (get_or form i 0) (get_or rest 0 0);
    puts = f.puts then put.puts;
    whole =
        append_assoc f.text (sign_filled (get_or form i 0) (get_or rest 0 0)) (filled (drop (i + 1) form) (drop (taken (get_or form i 0)) rest))
        ∙ ap (λ (x : List ℕ). f.text ++ x) (sym (next_text rest i h)) ∙ f.whole;
    left = omega (arith, next_room i h, f.left, put.within);
    same = put.same ∙ f.same;
    within = omega arith;
  }

  -- a sign that is @, for which the first number that is left is put, or 0
  pub number_filled : {new last : Page} {rest : List ℕ} {i n : ℕ} → Filling form numbers page new rest i → i < length form
      → get_or form i 0 ≡ code "@" → n ≡ get_or rest 0 0 → PutOn 20 new (decimal n) last → Filling form numbers page last (drop 1 rest) (i + 1)
  unfolding sign_filled taken
  number_filled {new} {last} {rest} {i} {n} f h at e put =
      let put' : PutOn (sign_room (get_or form i 0)) new (sign_filled (get_or form i 0) (get_or rest 0 0)) last = rw (at, ← e) put in
      rw at at (more_filled f h put')

  -- any other sign, which is put itself
  pub sign_filled_in : {new last : Page} {rest : List ℕ} {i : ℕ} → Filling form numbers page new rest i → i < length form
      → (get_or form i 0 ≡ code "@" → ⊥) → PutOn 1 new (get_or form i 0 ∷ []) last → Filling form numbers page last rest (i + 1)
  unfolding sign_filled taken
  sign_filled_in {new} {last} {rest} {i} f h other put =
      let e = ne_eqb (get_or form i 0) 64 other in
      let put' : PutOn (sign_room (get_or form i 0)) new (sign_filled (get_or form i 0) (get_or rest 0 0)) last = rw e put in
      rw e at (more_filled f h put')

  -- all are
  pub all_filled : {new : Page} {rest : List ℕ} {i : ℕ} → Filling form numbers page new rest i → length form ≤ i
      → PutOn (room form) page (filled form numbers) new
  unfolding filled
  all_filled {i = i} f h =
      let e : f.text ≡ filled form numbers = sym (append-nil f.text) ∙ (rw (drop_of_length-le form h) at f.whole) in
      record { puts = rw e at f.puts; within = omega (arith, f.left); same = f.same }
