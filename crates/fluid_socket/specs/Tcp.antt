-- The front over TCP, and what it shows as a front.
use Rattle.std.specs.Prelude.{ℕ, None}
use Rattle.fluid_io.specs.Streams.{Writing}
use Rattle.fluid_front.specs.Fronts.{Fronting}

pub record TcpFronting : Type 0 where
  -- the port at which it listens, and 0 where it listens nowhere
  pub port : ℕ
  -- where its lines go
  pub writer : Writing
  -- how many wires it gave, how often it gave none, and how many faults it counted
  pub given : ℕ
  pub nones : ℕ
  pub faults : ℕ

-- it doesn't tell how many wires it has left
abbrev pub tcp_seen : TcpFronting → Fronting
tcp_seen f = record { left = None; given = f.given; nones = f.nones; faults = f.faults }

-- a front that has done nothing yet
abbrev pub new_front : Writing → TcpFronting
new_front writer = record { port = 0; writer = writer; given = 0; nones = 0; faults = 0 }
