-- A disk in memory: what it holds, what a crash may leave of it, and what a crash at an earlier moment might have left.
use Rattle.std.specs.Prelude.{◌≡◌, ◌≤◌, ◌⊎◌, ℕ, ◌+◌, List, [], ◌∷◌, ◌++◌, length, take, drop, Some, refl}
use Rattle.std.specs.Coded.{Coded, code_by, coded×, coded_ℕ, coded_list}
use Rattle.std.proofs.Common.{inl, inr, lt_irrefl}
use Rattle.fluid_io.specs.Plan.{Planned, plan_code}
use Rattle.fluid_disk.specs.contracts.call.Call as calls
use Rattle.fluid_disk.specs.declared.call.Call.{Call}
use Rattle.fluid_disk.specs.declared.call.Call.TheVariants.{Wrote, CutOff, Synced}
use Rattle.fluid_disk.specs.Disk.{Stored, Torn, Cut}

-- the bytes before a call
abbrev pub undone : Call → List ℕ → List ℕ
undone (Wrote at n replaced) bytes = take at bytes ++ replaced ++ drop (at + n) bytes
undone (CutOff to removed) bytes = bytes ++ removed
undone Synced bytes = bytes

-- what a crash may leave behind these calls, of which the newest stands first
abbrev pub MayLeave : List Call → List ℕ → List ℕ → Type 0
MayLeave [] bytes image = image ≡ bytes
MayLeave (Wrote at n replaced ∷ earlier) bytes image = (image ≡ bytes) ⊎ ((before : List ℕ) × MayLeave earlier (undone (Wrote at n replaced) bytes) before × Torn at n before image)
MayLeave (CutOff to removed ∷ earlier) bytes image = (image ≡ bytes) ⊎ ((before : List ℕ) × MayLeave earlier (undone (CutOff to removed) bytes) before × Cut to before image)
MayLeave (Synced ∷ earlier) bytes image = image ≡ bytes

-- what a crash might have left at some moment since t; the moment is how many calls were done
abbrev pub LeftSince : List Call → List ℕ → ℕ → List ℕ → Type 0
LeftSince [] bytes t image = image ≡ bytes
LeftSince (call ∷ earlier) bytes t image = MayLeave (call ∷ earlier) bytes image ⊎ ((t ≤ length earlier) × LeftSince earlier (undone call bytes) t image)

pub record MemoryStored : Type 0 where
  pub held : List ℕ
  -- the calls that were done, the newest first
  pub calls : List Call
  -- the calls that are to fail, and the one from which on all fail
  pub plan : Planned
  pub stop : ℕ

abbrev pub memory_code : Coded MemoryStored
memory_code =
    code_by (List ℕ × (List Call × (Planned × ℕ))) (coded× (coded_list coded_ℕ) (coded× (coded_list calls.the_row.coded) (coded× plan_code coded_ℕ)))
    (λ d. (d.held, (d.calls, (d.plan, d.stop)))) (λ p. record { held = p.0; calls = p.1.0; plan = p.1.1.0; stop = p.1.1.1 }) (λ _. refl)

-- it tells its bytes
abbrev pub memory_seen : MemoryStored → Stored
memory_seen d = record { bytes = Some d.held; size = length d.held; faults = d.plan.faults }

-- bytes that stood in a range can have been what a write of so many bytes replaced: as many, or what there was up to the end
pub record Fits (size at count replaced : ℕ) : Type 0 where
  pub within : at + count ≤ size
  pub no_more : replaced ≤ count
  pub last : (replaced ≡ count) ⊎ (at + count ≡ size)

-- ---- the laws of a disk

pub leaves_held : (calls : List Call) (bytes : List ℕ) → MayLeave calls bytes bytes
leaves_held [] bytes = refl
leaves_held (Wrote at n replaced ∷ earlier) bytes = inl refl
leaves_held (CutOff to removed ∷ earlier) bytes = inl refl
leaves_held (Synced ∷ earlier) bytes = refl

pub left_now : (calls : List Call) (bytes : List ℕ) (t : ℕ) (image : List ℕ) → MayLeave calls bytes image → LeftSince calls bytes t image
left_now [] bytes t image now = now
left_now (call ∷ earlier) bytes t image now = inl now

pub now_alone : (calls : List Call) (bytes image : List ℕ) → LeftSince calls bytes (length calls) image → MayLeave calls bytes image
now_alone [] bytes image left = left
now_alone (call ∷ earlier) bytes image (inl now) = now
now_alone (call ∷ earlier) bytes image (inr past) = absurd (lt_irrefl (length earlier) past.0)
