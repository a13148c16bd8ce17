-- How far a spawner has come with a front.
use Rattle.std.proofs.Common.{◌≡◌, ℕ, ◌+◌, ◌^◌, ◌<◌, ◌≤◌, subst, ◌∙◌, arith}
use Rattle.fluid_io.specs.Causes.{Rose}
use Rattle.fluid_front.specs.Fronts.{CountsStay, Fronting, GivesNothing}
use Rattle.fluid_front.specs.Serving.{HasGiven, EndsBy, Serves}
use Rattle.fluid_front.specs.declared.spawner.FrontEnd.{FrontEnd}
use Rattle.fluid_front.specs.declared.spawner.FrontEnd.TheVariants.{Done, FrontFailed, SpawnRefused, NoMemory}

-- n wires were given, and no end was told
pub record IsServed (n : ℕ) (old new : Fronting) : Type 0 where
  pub counts : CountsStay old new
  pub given : HasGiven n old new
  pub nones : new.nones ≡ old.nones

-- ---- behind stations, for which no wire was given

pub counts_behind : (old mid new : Fronting) → CountsStay old mid → CountsStay mid new → CountsStay old new
counts_behind old mid new before behind = record {
  given = omega (arith, before.given, behind.given);
  nones = omega (arith, before.nones, behind.nones);
  faults = omega (arith, before.faults, behind.faults);
}

rose_behind : (old mid new : ℕ) → old ≤ mid → Rose mid new → Rose old new
rose_behind old mid new le rose = omega (arith, le, rose)

given_behind : (n : ℕ) (old mid new : Fronting) → mid.given ≡ old.given → HasGiven n mid new → HasGiven n old new
given_behind n old mid new same given = subst (λ g. g + n < 2 ^ 64 → new.given ≡ g + n) same given

ends_behind : (connections : ℕ) (old mid new : Fronting) (end : FrontEnd) → CountsStay old mid → GivesNothing old mid → EndsBy connections mid new end → EndsBy connections old new end
ends_behind connections old mid new (Done n) counts same done = record {
  given = given_behind n old mid new same.given done.given;
  most = done.most;
  all = λ is. done.all is ∙ same.nones;
  ended = λ lt. let ended = done.ended lt in (rose_behind old.nones mid.nones new.nones counts.nones ended.0, ended.1);
}
ends_behind connections old mid new FrontFailed counts same rose = rose_behind old.faults mid.faults new.faults counts.faults rose
ends_behind connections old mid new (SpawnRefused n) counts same refused = record {
  given = given_behind n old mid new same.given refused.given;
  first = refused.first;
  most = refused.most;
}
ends_behind connections old mid new NoMemory counts same none = tt

pub serves_behind : (connections : ℕ) (old mid new : Fronting) (end : FrontEnd) → CountsStay old mid → GivesNothing old mid → Serves connections mid new end → Serves connections old new end
serves_behind connections old mid new end counts same serves = record {
  counts = counts_behind old mid new counts serves.counts;
  does = ends_behind connections old mid new end counts same serves.does;
}
