use Rattle.records.proofs.Inverse.{encodings}
use Rattle.records.proofs.laws.encodings_lose_nothing.Goals as goal

pub returns : goal.returns
returns c = encodings
