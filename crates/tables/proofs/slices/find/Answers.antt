use Rattle.std.proofs.Common.{◌≡◌, ◌≢◌, rules}
use Rattle.std.proofs.lemmas.Iterator.{YieldsList-from_slice, IsFirst-from_position}
use Rattle.tables.proofs.Laying.{first_of}
use Rattle.tables.proofs.slices.find.Goals as goal

pub returns : goal.returns
returns g c =
    first_of c.args.x c.args.xs.now c.position.result
    (IsFirst-from_position _ _ c.position.result (λ y. y ≡ c.args.x) (λ y. y ≢ c.args.x) c.position.ensures.ran (YieldsList-from_slice c.args.xs.now cc) (λ y q k. search rules) (λ y q k. search rules))
