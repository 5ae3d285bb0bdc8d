use Rattle.std.proofs.Common.{refl}
use Rattle.handles.proofs.Logs.Founds.{answers}
use Rattle.handles.proofs.block.handle.Handle.is_marked.Goals as goal

pub returns : goal.returns
returns g c = let word = c.word-word in
    (word.ensures.id, answers _ _ word.result.0 word.result.1.log _ word.ensures.log c.is_marked.ensures refl)
