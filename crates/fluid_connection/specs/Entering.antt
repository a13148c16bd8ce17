-- What asking a document for one act does.
use Rattle.std.specs.Prelude.{◌≡◌, ℕ, nat_le, true, List, ◌++◌, map, Result, Ok, Err}
use Rattle.fluid_turn.specs.declared.view.Numbered.{Numbered}
use Rattle.fluid_turn.specs.Entries.{IsPrefix, by_seat}
use Rattle.fluid_types.specs.declared.messages.Message.{Message}
use Rattle.fluid_types.specs.declared.verdicts.Verdict.{Verdict}
use Rattle.fluid_rules.specs.Counted.{counted}
use Rattle.fluid_store.specs.Storing.{Storing}
use Rattle.fluid_deltas.specs.declared.fault.DeltaFault.{DeltaFault}
use Rattle.fluid_lane.specs.declared.steps.Step.{Step}
use Rattle.fluid_lane.specs.declared.fault.LaneFault.{LaneFault}
use Rattle.fluid_voice.specs.declared.actions.Act.{Act}
use Rattle.fluid_voice.specs.declared.ends.ActEnd.{ActEnd}
use Rattle.fluid_voice.specs.declared.ends.ActEnd.TheVariants.{Joined, Entered, FullNow}
use Rattle.fluid_ends.specs.declared.fault.TalkFault.{TalkFault}
use Rattle.fluid_ends.specs.Faults.{of_delta, refused_by, talk_steps}
use Rattle.fluid_talk.specs.Talking.{Knowing, Goes, ledger_of}
use Rattle.fluid_talk.specs.Doing.{Did, IsDone, IsAnswered}
use Rattle.fluid_talk.specs.Causes.{IsCauseOf}

-- how an entry ended, by the lane's answer
abbrev pub ended : Result Verdict LaneFault → Result ActEnd TalkFault
ended (Ok verdict) = Ok (Entered verdict)
ended (Err fault) = refused_by fault

-- the same of a join
abbrev pub joined : Result (List ℕ × Message) LaneFault → Result ActEnd TalkFault
joined (Ok (id, message)) = Ok (Joined id message.number)
joined (Err fault) = refused_by fault

-- the document has as many entries as it takes
abbrev pub IsFullAt : Knowing → Type 0
IsFullAt q = q.told ≡ true → nat_le q.limits.entries (counted (ledger_of q.seen)) ≡ true

abbrev pub LimitBy : ActEnd → Knowing → Type 0
LimitBy FullNow q = IsFullAt q
LimitBy end q = Unit {0}

abbrev pub did_of : Act → ActEnd → (found : List (Numbered Step)) → (added : List Step) → Did
did_of act end found added = record { act = act; end = end; found = found; added = added }

-- an act that was done
pub record DoesOne (p q : Knowing) (act : Act) (end : ActEnd) : Type 0 where
  pub found : List (Numbered Step)
  pub added : List Step
  pub begins : IsPrefix p.seen found
  pub seen : q.seen ≡ found ++ map (by_seat p.number) added
  pub goes : Goes p q added
  pub is_done : IsDone (did_of act end found added)
  pub answered : (store : Storing) → IsAnswered p store (did_of act end found added)
  pub limit : LimitBy end q

-- one that failed: the keeper's failure is noted, and nothing else is entered
pub record FailsOne (p q : Knowing) (act : Act) (fault : TalkFault) : Type 0 where
  pub goes : Goes p q (talk_steps fault)
  pub cause : (before now : Storing) → IsCauseOf q before now act fault

abbrev pub DoesAs : Knowing → Knowing → Act → Result ActEnd TalkFault → Type 0
DoesAs p q act (Ok end) = DoesOne p q act end
DoesAs p q act (Err fault) = FailsOne p q act fault

-- the same of an act that enters nothing
abbrev pub looked : Result ActEnd DeltaFault → Result ActEnd TalkFault
looked (Ok end) = Ok end
looked (Err fault) = Err (of_delta fault)
