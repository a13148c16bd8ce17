-- What asking a document for an act that enters nothing does, as a connection knows it.
use Rattle.std.proofs.Common.{◌≡◌, ◌∙◌, ℕ, Bool, true, false, List, [], Result, Ok, Err, IfOk, refl, sym, ap}
use Rattle.fluid_io.specs.Causes.{Rose}
use Rattle.fluid_io.specs.declared.faults.FaultNote.{FaultNote}
use Rattle.fluid_store.specs.Storing.{Storing}
use Rattle.fluid_store.specs.Held.{Held}
use Rattle.fluid_deltas.specs.declared.fault.DeltaFault.{DeltaFault}
use Rattle.fluid_deltas.specs.declared.fault.DeltaFault.TheVariants as delta
use Rattle.fluid_lane.specs.declared.steps.Step.{Step}
use Rattle.fluid_lane.specs.Steps.{range_steps}
use Rattle.fluid_doors.specs.declared.bench.Terms.{Terms}
use Rattle.fluid_doors.specs.Passing.{APass, Grows}
use Rattle.fluid_doors.specs.Looking.{IsLook, IsLookFault, SuitsLook, Looks}
use Rattle.fluid_voice.specs.declared.actions.Act.{Act}
use Rattle.fluid_voice.specs.declared.actions.Act.TheVariants as act
use Rattle.fluid_voice.specs.declared.ends.ActEnd.{ActEnd}
use Rattle.fluid_voice.specs.declared.ends.ActEnd.TheVariants.{Said, Joined, Told, Entered, FullNow, TooMany, Given}
use Rattle.fluid_voice.specs.Suits.{Suits}
use Rattle.fluid_ends.specs.Adding.{AddsBy}
use Rattle.fluid_ends.specs.Asking.{is_range}
use Rattle.fluid_talk.specs.Talking.{Knowing}
use Rattle.fluid_talk.specs.Doing.{IsTold}
use Rattle.fluid_connection.specs.Knowing.{knowing}
use Rattle.fluid_connection.specs.Entering.{LimitBy, DoesAs, looked}
use Rattle.fluid_connection.proofs.Passes.{goes_with, long_seen}

never : {A : Type 0} → true ≡ false → A
never same = cc

-- ---- its ends

adds_none : (a : Act) (end : ActEnd) → IsLook a → Suits a end → AddsBy a end []
adds_none (act.Deltas from to) end look suits = refl
adds_none (act.Summary asked) end look suits = refl
adds_none (act.Connect name true scopes detail moment) end look suits = never look
adds_none (act.Connect name false scopes detail moment) Said look suits = refl
adds_none (act.Connect name false scopes detail moment) (Joined id number) look suits = absurd suits
adds_none (act.Connect name false scopes detail moment) (Told last) look suits = refl
adds_none (act.Connect name false scopes detail moment) (Entered v) look suits = refl
adds_none (act.Connect name false scopes detail moment) FullNow look suits = refl
adds_none (act.Connect name false scopes detail moment) TooMany look suits = refl
adds_none (act.Connect name false scopes detail moment) (Given reply) look suits = refl
adds_none (act.Say reply) end look suits = absurd look
adds_none (act.Enter raw) end look suits = absurd look
adds_none (act.GetObject id) end look suits = absurd look
adds_none (act.PutObject bytes) end look suits = absurd look

no_limit : (a : Act) (end : ActEnd) (q : Knowing) → IsLook a → Suits a end → LimitBy end q
no_limit a Said q look suits = tt
no_limit a (Joined id number) q look suits = tt
no_limit a (Told last) q look suits = tt
no_limit a (Entered v) q look suits = tt
no_limit a TooMany q look suits = tt
no_limit a (Given reply) q look suits = tt
no_limit (act.Deltas from to) FullNow q look suits = absurd suits
no_limit (act.Summary asked) FullNow q look suits = absurd suits
no_limit (act.Connect name true scopes detail moment) FullNow q look suits = never look
no_limit (act.Connect name false scopes detail moment) FullNow q look suits = absurd suits
no_limit (act.Say reply) FullNow q look suits = absurd look
no_limit (act.Enter raw) FullNow q look suits = absurd look
no_limit (act.GetObject id) FullNow q look suits = absurd look
no_limit (act.PutObject bytes) FullNow q look suits = absurd look

told_of : (a : Act) (told : Bool) (store : Storing) (held : Held) → IsLook a → IsTold a told store held → told ≡ true
told_of (act.Deltas from to) told store held look is = is
told_of (act.Summary asked) told store held look is = is
told_of (act.Connect name write scopes detail moment) told store held look is = is
told_of (act.Say reply) told store held look is = absurd look
told_of (act.Enter raw) told store held look is = absurd look
told_of (act.GetObject id) told store held look is = absurd look
told_of (act.PutObject bytes) told store held look is = absurd look

-- ---- its faults

ranges : (a : Act) (fault : DeltaFault) → IsLookFault a fault → is_range a ≡ true
ranges (act.Deltas from to) fault caused = refl
ranges (act.Summary asked) fault caused = absurd caused
ranges (act.Connect name write scopes detail moment) fault caused = absurd caused
ranges (act.Say reply) fault caused = absurd caused
ranges (act.Enter raw) fault caused = absurd caused
ranges (act.GetObject id) fault caused = absurd caused
ranges (act.PutObject bytes) fault caused = absurd caused

rose : (a : Act) (note : FaultNote) → IsLookFault a (delta.DeltaFailed note) → Rose note.before note.after
rose (act.Deltas from to) note (last, first, end, is) = is.1
rose (act.Summary asked) note caused = absurd caused
rose (act.Connect name write scopes detail moment) note caused = absurd caused
rose (act.Say reply) note caused = absurd caused
rose (act.Enter raw) note caused = absurd caused
rose (act.GetObject id) note caused = absurd caused
rose (act.PutObject bytes) note caused = absurd caused

-- an end of a look is one that the act may have
suits_look : (a : Act) (end : ActEnd) → IsLook a → SuitsLook a end → Suits a end
suits_look (act.Deltas from to) end look suits = suits
suits_look (act.Summary asked) end look suits = suits
suits_look (act.Connect name true scopes detail moment) end look suits = never look
suits_look (act.Connect name false scopes detail moment) (Told last) look suits = tt
suits_look (act.Connect name false scopes detail moment) Said look suits = absurd suits
suits_look (act.Connect name false scopes detail moment) (Joined id number) look suits = absurd suits
suits_look (act.Connect name false scopes detail moment) (Entered v) look suits = absurd suits
suits_look (act.Connect name false scopes detail moment) FullNow look suits = absurd suits
suits_look (act.Connect name false scopes detail moment) TooMany look suits = absurd suits
suits_look (act.Connect name false scopes detail moment) (Given reply) look suits = absurd suits
suits_look (act.Say reply) end look suits = absurd look
suits_look (act.Enter raw) end look suits = absurd look
suits_look (act.GetObject id) end look suits = absurd look
suits_look (act.PutObject bytes) end look suits = absurd look

untold : (b : Bool) → (b ≡ true → ⊥) → b ≡ false
untold true not_so = absurd (not_so refl)
untold false not_so = refl

pub suits_of : {t : Terms} {l : List Step} (a : Act) (answer : Result ActEnd DeltaFault) → Looks t a answer l → IfOk answer (SuitsLook a)
suits_of a (Ok end) says = says.suits
suits_of a (Err fault) says = tt

module _ (name : List ℕ) (p q : APass) (a : Act) (look : IsLook a) where
  abbrev Grown : Result ActEnd DeltaFault → Type 0
  Grown answer = Grows p q (range_steps answer) (Looks p.turn.fixed a answer)

  pub looks : (answer : Result ActEnd DeltaFault) → Grown answer → DoesAs (knowing name p) (knowing name q) a (looked answer)
  looks (Ok end) grows = record {
    found = grows.before;
    added = [];
    begins = grows.begins;
    seen = grows.seen;
    goes = goes_with name p q _ _ grows;
    is_done = record { suits = suits_look a end look grows.says.suits; adds = adds_none a end look (suits_look a end look grows.says.suits) };
    answered = λ store held told. (grows.says.told (told_of a p.turn.fixed.told store held look told)).read held;
    limit = no_limit a end (knowing name q) look (suits_look a end look grows.says.suits);
  }
  looks (Err (delta.DeltaFailed note)) grows = record { goes = goes_with name p q _ _ grows; cause = λ before now. (ranges a _ grows.says.faults, rose a note grows.says.faults) }
  looks (Err (delta.BadDelta number)) grows = record {
    goes = goes_with name p q _ _ grows;
    cause = λ before now. (
      ranges a _ grows.says.faults,
      untold q.turn.fixed.told (λ told. absurd (grows.says.told (sym (ap (λ t. t.fixed.told) grows.turn) ∙ told)).faults),
    );
  }
  looks (Err delta.Worn) grows = record {
    goes = goes_with name p q _ _ grows;
    cause = λ before now. (ranges a _ grows.says.faults, long_seen p q _ grows (grows.says.worn tt));
  }
  looks (Err delta.NoMemory) grows = record { goes = goes_with name p q _ _ grows; cause = λ before now. tt }
