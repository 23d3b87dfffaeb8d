use Rattle.std.proofs.Common.{◌<◌, length, arith, rules}
use borrow.Author.Rules.{get_or_read}
use Rattle.runs.proofs.Listing.{so_far_new, so_far_more, so_far_all}
use Rattle.runs.proofs.list.perform_each.Goals as goal

pub loop-i-init : goal.loop-i-init
loop-i-init g c = so_far_new _ c.requires.new

pub loop-i-preserved : goal.loop-i-preserved
loop-i-preserved g c =
    let within : c.loop-i.i < length c.loop-i.replies = omega arith in
    so_far_more c.perform.result c.loop-i.invariant within (search (rules, get_or_read)) c.perform.ensures

pub returns : goal.returns
returns g c = so_far_all (g.met.B.TermBook.lawful c.args.book.now) c.loop-i.invariant (omega arith)
