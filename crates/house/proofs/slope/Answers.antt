-- `house::slope` meets its contract: the code's own table passes the test of the rule, which antt computes, and the first entry of p in a
-- table that keeps the rule tells the house slope of p.
use Rattle.std.proofs.Common.{rules, tests, nat_eq, option_map}
use Rattle.std.proofs.lemmas.Iterator.{YieldsList-from_slice}
use Rattle.std.proofs.lemmas.Iterator.Search.{find_from_yields_List}
use Rattle.residue.specs.Test.{up_to}
use Rattle.house.specs.House.{HouseTable, SlopeTold}
use Rattle.house.specs.SizeTest.{size_ok}
use Rattle.house.specs.SlopeTest.{slope_ok, clear}
use Rattle.house.specs.Table.{table_ok, table_sound}
use Rattle.house.specs.declared.TheConstants.{TABLE}
use Rattle.house.proofs.Found.{sizes, slopes, found}
use Rattle.house.proofs.slope.Goals as goal

rule : HouseTable (sizes TABLE) (slopes TABLE)
unfolding table_ok size_ok slope_ok clear up_to
rule = table_sound _ _ tt

pub returns-in_err-slope : goal.returns-in_err-slope
returns-in_err-slope c =
    let first = find_from_yields_List (λ e. nat_eq e.0 c.args.p) _ _ c.find.result c.find.ensures.ran (YieldsList-from_slice TABLE cc) (λ x b q k. search (rules, tests)) in
    let told : SlopeTold c.args.p (option_map (λ e. e.1) (option_map (λ e. e.now) c.find.result)) = found TABLE c.args.p _ rule first in
    rw c.from_residual.ensures (rw c.in_err-slope.was at told)

pub returns : goal.returns
returns c =
    let first = find_from_yields_List (λ e. nat_eq e.0 c.args.p) _ _ c.find.result c.find.ensures.ran (YieldsList-from_slice TABLE cc) (λ x b q k. search (rules, tests)) in
    let told : SlopeTold c.args.p (option_map (λ e. e.1) (option_map (λ e. e.now) c.find.result)) = found TABLE c.args.p _ rule first in
    rw c.in_ok-slope.was at told
