-- `words::Verb::takes` meets its contract: each sort, and of the options each command.
use Rattle.std.proofs.Common.{inl, inr}
use Rattle.words.specs.Words.{plain, repair_force, write_force, fill_force, correct_force, map_text}
use Rattle.words.proofs.Verb.takes.Goals as goal

pub returns-in-Plain : goal.returns-in-Plain
returns-in-Plain c =
    rw c.in-Plain.is plain

pub returns-in-Map : goal.returns-in-Map
returns-in-Map c =
    rw (c.in-Text.is, c.in-Map.is) map_text

pub returns-in-Repair : goal.returns-in-Repair
returns-in-Repair c =
    rw c.in-Force.is
    (elim c.in-Repair.is [
      | inl e ↦ rw e repair_force
      | inr (inl e) ↦ rw e write_force
      | inr (inr (inl e)) ↦ rw e fill_force
      | inr (inr (inr e)) ↦ rw e correct_force
    ])
