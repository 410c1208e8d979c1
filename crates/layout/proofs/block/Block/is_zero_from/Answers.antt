use Rattle.std.proofs.Common.{◌*◌, ◌∙◌}
use Rattle.layout.proofs.Laws.{zeros_body}
use Rattle.layout.proofs.block.Block.is_zero_from.Goals as goal

pub returns : goal.returns
returns c =
    c.all_zero.ensures
    ∙ zeros_body c.args.self.now.sheet.now c.bytes.result.now (512 * c.args.self.now.number) c.args.at c.bytes.ensures.part c.args.self.now.in_sheet c.requires
