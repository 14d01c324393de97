use Rattle.scenario.proofs.SoundLines.{lines_are_sound}
use Rattle.scenario.proofs.reader.lines_are_sound.Goals as goal

pub returns : goal.returns
returns c = lines_are_sound
