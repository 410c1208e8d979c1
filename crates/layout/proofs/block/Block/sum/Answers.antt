use Rattle.std.proofs.Common.{◌*◌, ◌∙◌}
use Rattle.layout.proofs.Laws.{weighted_body}
use Rattle.layout.proofs.block.Block.sum.Goals as goal

pub returns : goal.returns
returns c =
    c.weighted_sum.ensures
    ∙ weighted_body c.args.self.now.sheet.now c.bytes.result.now (512 * c.args.self.now.number) c.bytes.ensures.part c.bytes.ensures.length
