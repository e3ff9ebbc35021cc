use Rattle.rows.proofs.CursorLaws.{cursor_laws}
use Rattle.rows.proofs.laws.cursors_keep_their_bytes.Goals as goal

pub returns : goal.returns
returns c = cursor_laws
