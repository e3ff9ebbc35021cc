-- The words in which a refusal is told.
use Rattle.std.specs.Prelude.{ℕ, List, codes}

abbrev pub full_text : List ℕ
full_text = codes "no place is left"
