-- The cache hint, and where a write begins.
use Rattle.std.specs.Prelude.{Bool, true, false}
use Rattle.records.specs.declared.mode.Cache.{Cache}
use Rattle.records.specs.declared.mode.Cache.TheVariants.{Enabled, Disabled}
use Rattle.records.specs.declared.mode.WriteMode.{WriteMode}
use Rattle.records.specs.declared.mode.WriteMode.TheVariants as mode
use Rattle.records.specs.declared.mode.WriteAtState.{WriteAtState}
use Rattle.records.specs.declared.mode.WriteAtState.TheVariants as state

abbrev pub hinting : Cache → Bool
hinting Enabled = false
hinting Disabled = true

abbrev pub started : WriteMode → WriteAtState
started mode.Writing = state.Writing
started mode.WritingSync = state.WritingSync
started mode.WritingBeforeSync = state.WritingBeforeSync
