-- What is read of a version, as plain data.
use Rattle.std.specs.Prelude.{Result, Ok, Err}
use Rattle.fluid_types.specs.Quorum.{Quorum}
use Rattle.fluid_edits.specs.Replay.{Channels}
use Rattle.fluid_runtime.specs.App.{AnApp}
use Rattle.fluid_loader.specs.Version.{AVersion}
use Rattle.fluid_loader.specs.declared.version.Version.{Version}
use Rattle.fluid_loader.specs.declared.fault.LoadFault.{LoadFault}

abbrev pub channels_said : Result AnApp LoadFault → Result Channels LoadFault
channels_said (Ok app) = Ok app.channels
channels_said (Err fault) = Err fault

abbrev pub said : Result (AnApp × Quorum) LoadFault → Result (Channels × Quorum) LoadFault
said (Ok v) = Ok (v.0.channels, v.1)
said (Err fault) = Err fault

abbrev pub known : Result Version LoadFault → Result AVersion LoadFault
known (Ok v) = Ok (record { channels = v.app.channels; quorum = v.quorum; base = v.base })
known (Err fault) = Err fault
