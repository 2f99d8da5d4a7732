-- `page::Page::put` meets its contract.
use Rattle.std.proofs.Common.{refl, arith}
use Rattle.page.specs.Then.{put_copied}
use Rattle.page.proofs.Page.put.Goals as goal

pub returns : goal.returns
returns c =
    let args = c.args in
    record {
      puts = put_copied args.self.now.bytes.now args.words.now args.self.now.used _ _ c.requires (omega arith) c.copy_from_slice.ensures.after;
      within = omega arith;
      same = refl;
    }
