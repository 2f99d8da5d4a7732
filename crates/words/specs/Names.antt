-- The names of the commands: how a word is held to them, and that a word that is none of them names none. Assumes nothing.
use Rattle.std.specs.Prelude.{◌≡◌, Option, Some, None, Bool, cond, true, false, refl, List, [], ◌∷◌, ℕ}
use Rattle.std.proofs.Common.{subst}
use Rattle.std.specs.List.{find}
use Rattle.std.specs.Option.{option_map}
use Rattle.std.specs.Str.{bytes_eq}
use Rattle.std.proofs.lemmas.Slice.Eq.{bytes_eq-Decides}
use Rattle.lettering.specs.Line.{ascii}
use Rattle.words.specs.Words.{Names, names, name_of, VerbIs, names_none}
use Rattle.words.specs.declared.Verb.{Verb}
use Rattle.words.specs.declared.Verb.TheVariants as verb

-- a word that is none of the nine names
module _ (word : List ℕ)
    (no_list : word ≡ ascii "list" → ⊥)
    (no_repair : word ≡ ascii "repair" → ⊥)
    (no_map : word ≡ ascii "map" → ⊥)
    (no_read : word ≡ ascii "read" → ⊥)
    (no_write : word ≡ ascii "write" → ⊥)
    (no_fill : word ≡ ascii "fill" → ⊥)
    (no_correct : word ≡ ascii "correct" → ⊥)
    (no_help : word ≡ ascii "help" → ⊥)
    (no_version : word ≡ ascii "version" → ⊥) where
  no_name : (v : Verb) → Names word v → ⊥
  no_name verb.List e = no_list e
  no_name verb.Repair e = no_repair e
  no_name verb.Map e = no_map e
  no_name verb.Read e = no_read e
  no_name verb.Write e = no_write e
  no_name verb.Fill e = no_fill e
  no_name verb.Correct e = no_correct e
  no_name verb.Help e = no_help e
  no_name verb.Version e = no_version e

  pub none_named : VerbIs word None
  none_named = names_none no_name

-- of all commands the first whose name is the word, or none where there is no such
abbrev pub commands : List Verb
commands = verb.List ∷ verb.Repair ∷ verb.Map ∷ verb.Read ∷ verb.Write ∷ verb.Fill ∷ verb.Correct ∷ verb.Help ∷ verb.Version ∷ []

-- each command's name is found ..
name_found : (v : Verb) → find (λ w. bytes_eq (name_of v) (name_of w)) commands ≡ None → ⊥
name_found verb.List e = cc
name_found verb.Repair e = cc
name_found verb.Map e = cc
name_found verb.Read e = cc
name_found verb.Write e = cc
name_found verb.Fill e = cc
name_found verb.Correct e = cc
name_found verb.Help e = cc
name_found verb.Version e = cc

-- .. and so a word that names a command
finds : (word : List ℕ) (v : Verb) → Names word v → find (λ w. bytes_eq word (name_of w)) commands ≡ None → ⊥
finds word v n e = name_found v (subst (λ (w : List ℕ). find (λ x. bytes_eq w (name_of x)) commands ≡ None) n e)

-- the first command of some whose name is the word, where a word that none of them has names no command
named : (word : List ℕ) (vs : List Verb) → (find (λ w. bytes_eq word (name_of w)) vs ≡ None → (v : Verb) → Names word v → ⊥)
    → VerbIs word (find (λ v. bytes_eq word (name_of v)) vs)
named word [] none = names_none (none refl)
named word (v ∷ vs) none = go (bytes_eq word (name_of v)) refl (named word vs)
  where
    go : (b : Bool) → bytes_eq word (name_of v) ≡ b
        → ((find (λ w. bytes_eq word (name_of w)) vs ≡ None → (w : Verb) → Names word w → ⊥) → VerbIs word (find (λ w. bytes_eq word (name_of w)) vs))
        → VerbIs word (cond b (Some v) (find (λ w. bytes_eq word (name_of w)) vs))
    go true e rest = names ((bytes_eq-Decides word (name_of v)).0 e)
    go false e rest = rest (λ m. none (rw e m))

-- so what is found is what the word says
pub found : (word : List ℕ) (r : Option Verb) → option_map (λ v. v) r ≡ find (λ v. bytes_eq word (name_of v)) commands → VerbIs word r
found word (Some v) e = rw e (named word commands (λ m w n. finds word w n m))
found word None e = rw e (named word commands (λ m w n. finds word w n m))
