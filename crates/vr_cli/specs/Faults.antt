-- The status of a text that was not written whole.
use Rattle.vr_cli.specs.declared.gathering.TextFault.{TextFault}
use Rattle.vr_cli.specs.declared.gathering.TextFault.TheVariants.{Failed, OutOfMemory}
use Rattle.vr_cli.specs.declared.status.Status.{Status}
use Rattle.vr_cli.specs.declared.status.Status.TheVariants.{WriteFault, WantOfMemory}

abbrev pub status_for : TextFault → Status
status_for Failed = WriteFault
status_for OutOfMemory = WantOfMemory
