use Rattle.scripts.proofs.ScriptLines.{each_text_has_its_lines as law}
use Rattle.scripts.proofs.laws.each_text_has_its_lines.Goals as goal

pub returns : goal.returns
returns c = law
