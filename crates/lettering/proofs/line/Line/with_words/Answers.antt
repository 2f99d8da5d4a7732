-- `lettering::line::Line::with_words`: what is behind the words stays 0, and the text is what it was, and the words.
use Rattle.std.proofs.Common.{◌≡◌, List, ℕ, ◌++◌, length, arith, ap, ap₂, sym, ◌∙◌}
use Rattle.lettering.specs.Blank.{put_blank, text_long}
use Rattle.std.proofs.lemmas.Slice.{take-put_mid}
use Rattle.lettering.proofs.line.Line.with_words.Goals as goal

pub invariant_of-self : goal.invariant_of-self
invariant_of-self c =
    let long : c.self.inside.length ≡ length c.args.self = sym (text_long _ _ c.self.invariant) ∙ ap length c.self.view_is in
    let words : length c.copy_from_slice.new.self ≡ length c.args.words.now = ap length c.copy_from_slice.ensures.after in
    put_blank c.self.inside.length _ _ c.self.inside.bytes c.copy_from_slice.new.self c.self.invariant (omega arith) (omega arith) (omega arith)

pub returns : goal.returns
returns c =
    let words : length c.copy_from_slice.new.self ≡ length c.args.words.now = ap length c.copy_from_slice.ensures.after in
    take-put_mid c.self.inside.length _ c.self.inside.bytes c.copy_from_slice.new.self _ (omega arith) (omega arith)
    ∙ ap₂ (λ (t w : List ℕ). t ++ w) c.self.view_is c.copy_from_slice.ensures.after
