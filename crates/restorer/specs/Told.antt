-- What is told of a tile, by what its flags turn out to be and by what the answer turns out to say. Assumes nothing.
use Rattle.code.specs.declared.Line.{Line}
use Rattle.std.specs.Prelude.{◌≡◌, List, ℕ, Option}
use Rattle.code.specs.declared.Kind.{Kind}
use Rattle.promise.specs.Answer.{Said}
use Rattle.restorer.specs.Restore.{RestoreTold}

-- what is told of the flags f and s, with this answer, is told of flags and of an answer that equal them
pub flags_told : (k : Kind) (p l : ℕ) (tile new : List ℕ) {first second f s : Option Line} {said answer : Said} → first ≡ f → second ≡ s → said ≡ answer
    → RestoreTold k p l tile f s answer new → RestoreTold k p l tile first second said new
flags_told k p l tile new is_first is_second is_said told = rw (is_first, is_second, is_said) told
