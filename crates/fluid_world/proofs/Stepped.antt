-- What each sort of step leaves of the names, of the desk and of the store.
use Rattle.std.proofs.Common.{◌≡◌, ℕ, ◌+◌, ◌≤◌, ◌<◌, arith, Bool, true, false, not, cond, List, [], ◌∷◌, Option, Some, None, Result, Ok, Err, bytes_eq, refl, sym, ap, subst, ◌∙◌}
use Rattle.std.specs.Prelude.{IfSome, IsSome, is_some, OnOk}
use Rattle.std.specs.FinMap.{get, insert}
use Rattle.fluid_table.specs.Table.{Values}
use Rattle.fluid_table.proofs.Places.{get_inserted, get_own}
use Rattle.fluid_types.specs.Forms.{largest}
use Rattle.fluid_rules.specs.declared.limits.Limits.{Limits}
use Rattle.fluid_store.specs.Storing.{Storing}
use Rattle.fluid_lanes.specs.Opened.{Opened}
use Rattle.fluid_loader.specs.Laws.{StayBased}
use Rattle.fluid_steps.specs.declared.steps.Step.{Step}
use Rattle.fluid_voice.specs.declared.states.VoiceState.{VoiceState}
use Rattle.fluid_voice.specs.declared.states.VoiceState.TheVariants.{Fresh}
use Rattle.fluid_transcript.specs.World.{Container, Roamer as ARoamer, Name, connection, container, roamer, used_up, World, Told}
use Rattle.fluid_transcript.specs.Connections.{voice_named, voice_of}
use Rattle.fluid_transcript.specs.Sound.{IsSoundVoice, IsSoundName}
use Rattle.fluid_steps.specs.declared.refusal.LineWhy.{LineWhy}
use Rattle.fluid_edits.specs.declared.edit.Edit.{Edit as AnEdit}
use Rattle.fluid_json.specs.declared.fault.JsonFault.{JsonFault}
use Rattle.fluid_transcript.specs.Steps.{refusal, refusal_of_edit}
use Rattle.fluid_transcript.specs.Transcript.{done, written}
use Rattle.fluid_desk.specs.declared.stop.Stop.{Stop}
use Rattle.fluid_desk.specs.declared.stop.Stop.TheVariants.{NoMemory}
use Rattle.fluid_desk.specs.Stands.{DeskStands, StoreStands}
use Rattle.fluid_desk.specs.Stopping.{MayStop}
use Rattle.fluid_desk.proofs.Honest.{may_want}
use Rattle.fluid_desk.specs.Acting.{DeskDoes}
use Rattle.fluid_desk.specs.Scribing.{DeskDoesWith}
use Rattle.fluid_callers.specs.Calling.{CallDoes, CallDoesWith, CloseDoes}
use Rattle.fluid_holding.specs.Laws.{OthersLeave}
use Rattle.fluid_beside.specs.Beside.{own_name, StepsLeaveOthers, PutsNone, StepsKeepStore}
use Rattle.fluid_containers.specs.Holders.{IsHolderOf}
use Rattle.fluid_containers.specs.Stepping.{StepDoes, IsLoaded, LoadDoes, IsFresh}
use Rattle.fluid_containers.specs.declared.holder.Holder.{Holder}
use Rattle.fluid_containers.specs.declared.loading.Loaded.{Loaded}
use Rattle.fluid_containers.specs.declared.loading.Loaded.TheVariants as load
use Rattle.fluid_roamers.specs.Roaming.{IsRoamerOf}
use Rattle.fluid_roamers.specs.Stepping.{StepDoes as RoamerDoes, RoamDoes, IsNamedIn, IsSendableIf}
use Rattle.fluid_roamers.specs.Taking.{IsSendable}
use Rattle.fluid_roamers.specs.declared.roamer.Roamer.{Roamer}
use Rattle.fluid_world.specs.declared.named.Named.{Named}
use Rattle.fluid_world.specs.declared.named.Named.TheVariants as a
use Rattle.fluid_world.specs.Naming.{new_refusal, container_refusal, roamer_refusal, shown_refusal, is_lost, refused_if_other, lost_refusal, refusal_by, named_for, named_by, IsBounded, AreBounded}
use Rattle.fluid_world.specs.Standing.{IsNamed, WorldStands, StepTakes, IsWrittenOf}
use Rattle.fluid_world.proofs.Behind.{same_refusal, OwnNamed, OthersStay, named_behind, sound_behind}

-- ---- tables of names

-- another name has what it had
put_other : (names : Values Named) (own : List ℕ) (n : Named) (q : List ℕ) → bytes_eq q own ≡ false → get (insert names own n) q ≡ get names q
put_other names own n q other = get_inserted names own n q ∙ ap (λ b. cond b (Some n) (get names q)) other

pub given_stay : (names : Values Named) (own : List ℕ) (n : Named) → OthersStay names (insert names own n) (Some own)
given_stay names own n q other = put_other names own n q other

pub put_stay : (names : Values Named) (own : List ℕ) (m n : Named) → OthersStay names (insert (insert names own m) own n) (Some own)
put_stay names own m n q other = put_other (insert names own m) own n q other ∙ put_other names own m q other

-- ---- names in a world

module _ (w : World) where
  -- a connection is the world's
  pub voice_there : (n : Option Named) (m : Option Name) (v : VoiceState) → n ≡ Some (a.Connection v) → IsNamed w n m → m ≡ Some (connection v)
  voice_there None m v is named = absurd (cc)
  voice_there (Some (a.Container h)) m v is named = absurd (cc)
  voice_there (Some (a.Roamer h)) m v is named = absurd (cc)
  voice_there (Some a.Used) m v is named = absurd (cc)
  voice_there (Some (a.Connection s)) None v is named = absurd named
  voice_there (Some (a.Connection s)) (Some (connection t)) v is named = let same : s ≡ v = cc in ap (λ x. Some (connection x)) (sym named ∙ same)
  voice_there (Some (a.Connection s)) (Some (container k)) v is named = absurd named
  voice_there (Some (a.Connection s)) (Some (roamer k)) v is named = absurd named
  voice_there (Some (a.Connection s)) (Some used_up) v is named = absurd named

  pub none_there : (n : Option Named) (m : Option Name) → n ≡ None → IsNamed w n m → m ≡ None
  none_there None None is named = refl
  none_there None (Some m) is named = absurd named
  none_there (Some n) m is named = absurd (cc)

  -- and a container
  pub holder_there : (n : Option Named) (m : Option Name) (h : Holder) → n ≡ Some (a.Container h) → IsNamed w n m → (k : Container) × ((m ≡ Some (container k)) × IsHolderOf w h k)
  holder_there None m h is named = absurd (cc)
  holder_there (Some (a.Connection s)) m h is named = absurd (cc)
  holder_there (Some (a.Roamer g)) m h is named = absurd (cc)
  holder_there (Some a.Used) m h is named = absurd (cc)
  holder_there (Some (a.Container g)) None h is named = absurd named
  holder_there (Some (a.Container g)) (Some (connection t)) h is named = absurd named
  holder_there (Some (a.Container g)) (Some (container k)) h is named = let same : g ≡ h = cc in (k, (refl, subst (λ x. IsHolderOf w x k) same named))
  holder_there (Some (a.Container g)) (Some (roamer k)) h is named = absurd named
  holder_there (Some (a.Container g)) (Some used_up) h is named = absurd named

  -- and a roamer
  pub roamer_there : (n : Option Named) (m : Option Name) (h : Roamer) → n ≡ Some (a.Roamer h) → IsNamed w n m → (k : ARoamer) × ((m ≡ Some (roamer k)) × IsRoamerOf w h k)
  roamer_there None m h is named = absurd (cc)
  roamer_there (Some (a.Connection s)) m h is named = absurd (cc)
  roamer_there (Some (a.Container g)) m h is named = absurd (cc)
  roamer_there (Some a.Used) m h is named = absurd (cc)
  roamer_there (Some (a.Roamer g)) None h is named = absurd named
  roamer_there (Some (a.Roamer g)) (Some (connection t)) h is named = absurd named
  roamer_there (Some (a.Roamer g)) (Some (container k)) h is named = absurd named
  roamer_there (Some (a.Roamer g)) (Some (roamer k)) h is named = let same : g ≡ h = cc in (k, (refl, subst (λ x. IsRoamerOf w x k) same named))
  roamer_there (Some (a.Roamer g)) (Some used_up) h is named = absurd named

  sound_voice : (m : Option Name) (v : VoiceState) → m ≡ Some (connection v) → IfSome m (IsSoundName w) → IsSoundVoice w v
  sound_voice m v is sound = subst (λ n. IfSome n (IsSoundName w)) is sound

-- a name that may be given was never given
pub new_none : (n : Option Named) → new_refusal n ≡ None → n ≡ None
new_none None is = refl
new_none (Some n) is = absurd (cc)

-- a roamer that may be lost, or come back, has a roamer's name
pub one_roamer : (wanted : Bool) (n : Option Named) → lost_refusal wanted n ≡ None → roamer_refusal n ≡ None
one_roamer wanted None is = is
one_roamer wanted (Some (a.Connection v)) is = is
one_roamer wanted (Some (a.Container h)) is = is
one_roamer wanted (Some (a.Roamer h)) is = refl
one_roamer wanted (Some a.Used) is = is

lost_unless : (b : Bool) → refused_if_other true b ≡ None → b ≡ true
lost_unless true is = refl
lost_unless false is = absurd (cc)

pub lost_then : (n : Option Named) (h : Roamer) → lost_refusal true n ≡ None → n ≡ Some (a.Roamer h) → is_lost h ≡ true
lost_then n h is there = lost_unless (is_lost h) (ap (lost_refusal true) (sym there) ∙ is)

-- what is shown is a roamer's or a container's
pub roamer_shown : (n : Option Named) → roamer_refusal n ≡ None → shown_refusal n ≡ None
roamer_shown None is = is
roamer_shown (Some (a.Connection v)) is = is
roamer_shown (Some (a.Container h)) is = refl
roamer_shown (Some (a.Roamer h)) is = refl
roamer_shown (Some a.Used) is = is

pub holder_shown : (n : Option Named) → container_refusal n ≡ None → shown_refusal n ≡ None
holder_shown None is = is
holder_shown (Some (a.Connection v)) is = is
holder_shown (Some (a.Container h)) is = refl
holder_shown (Some (a.Roamer h)) is = refl
holder_shown (Some a.Used) is = is

pub shows_roamer : (n : Option Named) → not (is_some (roamer_refusal n)) ≡ true → roamer_refusal n ≡ None
shows_roamer None is = absurd (cc)
shows_roamer (Some (a.Connection v)) is = absurd (cc)
shows_roamer (Some (a.Container h)) is = absurd (cc)
shows_roamer (Some (a.Roamer h)) is = refl
shows_roamer (Some a.Used) is = absurd (cc)

pub shows_holder : (n : Option Named) → shown_refusal n ≡ None → not (is_some (roamer_refusal n)) ≡ false → container_refusal n ≡ None
shows_holder None shown is = shown
shows_holder (Some (a.Connection v)) shown is = shown
shows_holder (Some (a.Container h)) shown is = refl
shows_holder (Some (a.Roamer h)) shown is = absurd (cc)
shows_holder (Some a.Used) shown is = shown

-- an edit that isn't refused has a fitting name, and JSON
pub edit_name : (op : Result AnEdit JsonFault) (why : Option LineWhy) → refusal_of_edit op why ≡ None → why ≡ None
edit_name op None is = refl
edit_name op (Some why) is = absurd (cc)

pub edit_reads : (fault : JsonFault) (why : Option LineWhy) → refusal_of_edit (Err fault) why ≡ None → ⊥
edit_reads fault None is = cc
edit_reads fault (Some why) is = cc

-- a name's connection as the steps want it
pub record HasVoice (w : World) (c : List ℕ) (v : VoiceState) : Type 0 where
  pub sound : IsSoundVoice w v
  pub is : voice_of w c ≡ v

pub voice_in : (lanes : Opened) (store : Storing) (names : Values Named) (w : World) (c : List ℕ) (v : VoiceState) → WorldStands lanes store names w → get names c ≡ Some (a.Connection v) → HasVoice w c v
voice_in lanes store names w c v stands there =
    let is = voice_there w (get names c) (get w.names c) v there (stands.named c) in
    record { sound = sound_voice w (get w.names c) v is (stands.sound.names c); is = ap voice_named is }

pub new_voice_in : (lanes : Opened) (store : Storing) (names : Values Named) (w : World) (c : List ℕ) (v : VoiceState) → WorldStands lanes store names w → get names c ≡ None → v ≡ Fresh → HasVoice w c v
new_voice_in lanes store names w c v stands there fresh =
    subst (HasVoice w c) (sym fresh) (record { sound = tt; is = ap voice_named (none_there w (get names c) (get w.names c) there (stands.named c)) })

-- ---- steps

module _ (limits : Limits) (w : World) (step : Step) (old : Opened) (store : Storing) (names : Values Named) (stands : WorldStands old store names w) (accepted : refusal_by names step ≡ None)
    (leave : StepsLeaveOthers) (others : OthersLeave) (based : StayBased) where
  ok : refusal w step ≡ None
  ok = same_refusal names w stands.named step ∙ accepted

  abbrev told : Told
  told = done limits w step

  stands_behind : (new : Opened) (now : Storing) (given : Values Named) → DeskStands new told.world → StoreStands now told.world → OthersStay names given (own_name step)
      → OwnNamed told.world given (own_name step) → WorldStands new now given told.world
  stands_behind new now given desk held stay own = record {
    desk = desk;
    held = held;
    named = named_behind limits w step stands.sound ok leave others based new desk names given stands.named stay own;
    sound = sound_behind limits w step stands.sound ok leave others based new desk;
  }

  -- the line with its end
  says_one : (line bytes : List ℕ) → told.lines ≡ line ∷ [] → bytes ≡ written (line ∷ []) → bytes ≡ written told.lines
  says_one line bytes says is = is ∙ ap written (sym says)

  wanting : (new : Opened) (stop : Stop) → stop ≡ NoMemory → MayStop told.world new stop
  wanting new stop is = may_want told.world new stop is

  -- ---- of documents

  pub document_takes : (new : Opened) (line result : Result (List ℕ) Stop) → own_name step ≡ None → PutsNone step → StepsKeepStore → DeskDoes told new line → IsWrittenOf line result
      → StepTakes told new store names result
  document_takes new (Ok line) (Ok bytes) none puts keep did is = record {
    stands =
        stands_behind new store names did.stands (stands.held ∙ ap Some (sym (keep limits w step puts))) (λ q other. refl) (subst (OwnNamed told.world names) (sym none) tt);
    says = says_one line bytes did.says is;
  }
  document_takes new (Ok line) (Err stop) none puts keep did is = wanting new stop is
  document_takes new (Err stop) (Ok bytes) none puts keep did is = absurd is
  document_takes new (Err stop) (Err same) none puts keep did is = subst (MayStop told.world new) (sym is) did

  pub scribe_takes : (new : Opened) (now : Storing) (line result : Result (List ℕ) Stop) → own_name step ≡ None → DeskDoesWith told new now line → IsWrittenOf line result
      → StepTakes told new now names result
  scribe_takes new now (Ok line) (Ok bytes) none did is = record {
    stands = stands_behind new now names did.done.stands did.held (λ q other. refl) (subst (OwnNamed told.world names) (sym none) tt);
    says = says_one line bytes did.done.says is;
  }
  scribe_takes new now (Ok line) (Err stop) none did is = wanting new stop is
  scribe_takes new now (Err stop) (Ok bytes) none did is = absurd is
  scribe_takes new now (Err stop) (Err same) none did is = subst (MayStop told.world new) (sym is) did

  -- ---- of connections

  named_so : (own : List ℕ) (given : Values Named) (v : VoiceState) → get given own ≡ Some (a.Connection v) → get told.world.names own ≡ Some (connection v)
      → IsNamed told.world (get given own) (get told.world.names own)
  named_so own given v there is =
      subst (λ n. IsNamed told.world n (get told.world.names own)) (sym there) (subst (IsNamed told.world (Some (a.Connection v))) (sym is) refl)

  used_so : (own : List ℕ) (given : Values Named) → get given own ≡ Some a.Used → get told.world.names own ≡ Some used_up → IsNamed told.world (get given own) (get told.world.names own)
  used_so own given there is = subst (λ n. IsNamed told.world n (get told.world.names own)) (sym there) (subst (IsNamed told.world (Some a.Used)) (sym is) tt)

  pub call_takes : (c : List ℕ) (given : Values Named) (v : VoiceState) (new : Opened) (now : Storing) (result : Result (List ℕ) Stop) → own_name step ≡ Some c
      → OthersStay names given (Some c) → get given c ≡ Some (a.Connection v) → CallDoesWith told c new now v result → StepTakes told new now given result
  call_takes c given v new now (Ok bytes) own stay there did = record {
    stands =
        stands_behind new now given did.called.stands did.held (subst (OthersStay names given) (sym own) stay)
        (subst (OwnNamed told.world given) (sym own) (named_so c given v there did.called.name));
    says = did.called.says;
  }
  call_takes c given v new now (Err stop) own stay there did = did

  pub gather_takes : (c : List ℕ) (given : Values Named) (v : VoiceState) (new : Opened) (result : Result (List ℕ) Stop) → own_name step ≡ Some c → PutsNone step → StepsKeepStore
      → OthersStay names given (Some c) → get given c ≡ Some (a.Connection v) → CallDoes told c new v result → StepTakes told new store given result
  gather_takes c given v new (Ok bytes) own puts keep stay there did = record {
    stands =
        stands_behind new store given did.stands (stands.held ∙ ap Some (sym (keep limits w step puts))) (subst (OthersStay names given) (sym own) stay)
        (subst (OwnNamed told.world given) (sym own) (named_so c given v there did.name));
    says = did.says;
  }
  gather_takes c given v new (Err stop) own puts keep stay there did = did

  pub close_takes : (c : List ℕ) (given : Values Named) (new : Opened) (line result : Result (List ℕ) Stop) → own_name step ≡ Some c → PutsNone step → StepsKeepStore
      → OthersStay names given (Some c) → get given c ≡ Some a.Used → CloseDoes told c new line → IsWrittenOf line result → StepTakes told new store given result
  close_takes c given new (Ok line) (Ok bytes) own puts keep stay there did is = record {
    stands =
        stands_behind new store given did.stands (stands.held ∙ ap Some (sym (keep limits w step puts))) (subst (OthersStay names given) (sym own) stay)
        (subst (OwnNamed told.world given) (sym own) (used_so c given there did.name));
    says = says_one line bytes did.says is;
  }
  close_takes c given new (Ok line) (Err stop) own puts keep stay there did is = wanting new stop is
  close_takes c given new (Err stop) (Ok bytes) own puts keep stay there did is = absurd is
  close_takes c given new (Err stop) (Err same) own puts keep stay there did is = subst (MayStop told.world new) (sym is) did

  -- ---- of containers

  pub step_takes : (p : List ℕ) (given : Values Named) (h : Holder) (new : Opened) (now : Storing) (line result : Result (List ℕ) Stop) → own_name step ≡ Some p
      → OthersStay names given (Some p) → get given p ≡ Some (a.Container h) → StepDoes told p new now h line → IsWrittenOf line result → StepTakes told new now given result
  step_takes p given h new now (Ok line) (Ok bytes) own stay there did is = record {
    stands =
        stands_behind new now given did.stands did.held (subst (OthersStay names given) (sym own) stay)
        (subst (OwnNamed told.world given) (sym own)
        (subst (λ n. IsNamed told.world n (get told.world.names p)) (sym there) (subst (IsNamed told.world (Some (a.Container h))) (sym did.name) did.holder)));
    says = says_one line bytes did.says is;
  }
  step_takes p given h new now (Ok line) (Err stop) own stay there did is = wanting new stop is
  step_takes p given h new now (Err stop) (Ok bytes) own stay there did is = absurd is
  step_takes p given h new now (Err stop) (Err same) own stay there did is = subst (MayStop told.world new) (sym is) did

  loaded_so : (p : List ℕ) (given : Values Named) (l : Loaded) → get given p ≡ Some (named_for l) → IsLoaded told.world p l → IsNamed told.world (get given p) (get told.world.names p)
  loaded_so p given (load.Held h) there is =
      subst (λ n. IsNamed told.world n (get told.world.names p)) (sym there) (subst (IsNamed told.world (Some (a.Container h))) (sym is.1.0) is.1.1)
  loaded_so p given (load.TurnedAway refusal) there is = used_so p given there is
  loaded_so p given load.NoSummary there is = used_so p given there is
  loaded_so p given (load.BadSummary path) there is = used_so p given there is

  pub load_takes : (p : List ℕ) (given : Values Named) (l : Loaded) (new : Opened) (now : Storing) (line : List ℕ) (result : Result (List ℕ) Stop) → own_name step ≡ Some p
      → OthersStay names given (Some p) → get given p ≡ Some (named_for l) → LoadDoes told p new now (Ok (line, l)) → IsWrittenOf (Ok line) result → StepTakes told new now given result
  load_takes p given l new now line (Ok bytes) own stay there did is = record {
    stands =
        stands_behind new now given did.stands did.held (subst (OthersStay names given) (sym own) stay)
        (subst (OwnNamed told.world given) (sym own) (loaded_so p given l there did.name));
    says = says_one line bytes did.says is;
  }
  load_takes p given l new now line (Err stop) own stay there did is = wanting new stop is

  -- ---- of roamers

  roamer_so : (r : List ℕ) (given : Values Named) (h : Roamer) → get given r ≡ Some (a.Roamer h) → (k : ARoamer) → get told.world.names r ≡ Some (roamer k) → IsRoamerOf told.world h k
      → IsNamed told.world (get given r) (get told.world.names r)
  roamer_so r given h there k name is =
      subst (λ n. IsNamed told.world n (get told.world.names r)) (sym there) (subst (IsNamed told.world (Some (a.Roamer h))) (sym name) is)

  pub roamer_takes : (r : List ℕ) (given : Values Named) (h : Roamer) (new : Opened) (line result : Result (List ℕ) Stop) → own_name step ≡ Some r → PutsNone step → StepsKeepStore
      → OthersStay names given (Some r) → get given r ≡ Some (a.Roamer h) → RoamerDoes told r new h line → IsWrittenOf line result → StepTakes told new store given result
  roamer_takes r given h new (Ok line) (Ok bytes) own puts keep stay there did is = record {
    stands =
        stands_behind new store given did.stands (stands.held ∙ ap Some (sym (keep limits w step puts))) (subst (OthersStay names given) (sym own) stay)
        (subst (OwnNamed told.world given) (sym own) (roamer_so r given h there did.now did.name did.roams));
    says = says_one line bytes did.says is;
  }
  roamer_takes r given h new (Ok line) (Err stop) own puts keep stay there did is = wanting new stop is
  roamer_takes r given h new (Err stop) (Ok bytes) own puts keep stay there did is = absurd is
  roamer_takes r given h new (Err stop) (Err same) own puts keep stay there did is = subst (MayStop told.world new) (sym is) did

  roamed_so : (r : List ℕ) (given : Values Named) (made : Option Roamer) → get given r ≡ Some (named_by made) → IsNamedIn told.world r made → IsNamed told.world (get given r) (get told.world.names r)
  roamed_so r given (Some h) there (k, (name, is)) = roamer_so r given h there k name is
  roamed_so r given None there is = used_so r given there is

  pub roam_takes : (r : List ℕ) (given : Values Named) (made : Option Roamer) (new : Opened) (line : List ℕ) (result : Result (List ℕ) Stop) → own_name step ≡ Some r → PutsNone step → StepsKeepStore
      → OthersStay names given (Some r) → get given r ≡ Some (named_by made) → RoamDoes told r new (Ok (line, made)) → IsWrittenOf (Ok line) result → StepTakes told new store given result
  roam_takes r given made new line (Ok bytes) own puts keep stay there did is = record {
    stands =
        stands_behind new store given did.stands (stands.held ∙ ap Some (sym (keep limits w step puts))) (subst (OthersStay names given) (sym own) stay)
        (subst (OwnNamed told.world given) (sym own) (roamed_so r given made there did.name));
    says = says_one line bytes did.says is;
  }
  roam_takes r given made new line (Err stop) own puts keep stay there did is = wanting new stop is

-- ---- bounds

bound_grows : (n m : ℕ) (named : Named) → n ≤ m → IsBounded n named → IsBounded m named
bound_grows n m (a.Connection voice) le is = tt
bound_grows n m (a.Container holder) le is = omega (arith, le, is)
bound_grows n m (a.Roamer h) le is = is
bound_grows n m a.Used le is = tt

pub bounded_more : (n m : ℕ) (names : Values Named) → n ≤ m → AreBounded n names → AreBounded m names
bounded_more n m names le few q named there = bound_grows n m named le (few q named there)

bounded_by : (names : Values Named) (own : List ℕ) (n : Named) (most : ℕ) → AreBounded most names → IsBounded (most + 1) n
    → (given : Values Named) → ((q : List ℕ) → get given q ≡ cond (bytes_eq q own) (Some n) (get names q)) → AreBounded (most + 1) given
bounded_by names own n most few its given is q named there = by (bytes_eq q own) (sym (is q) ∙ there)
  where
    by : (b : Bool) → cond b (Some n) (get names q) ≡ Some named → IsBounded (most + 1) named
    by true same = let e : n ≡ named = cc in subst (IsBounded (most + 1)) e its
    by false same = bound_grows most (most + 1) named (omega arith) (few q named same)

put_twice : (names : Values Named) (own : List ℕ) (m n : Named) (q : List ℕ) → get (insert (insert names own m) own n) q ≡ cond (bytes_eq q own) (Some n) (get names q)
put_twice names own m n q = get_inserted (insert names own m) own n q ∙ by (bytes_eq q own) refl
  where
    by : (b : Bool) → bytes_eq q own ≡ b → cond b (Some n) (get (insert names own m) q) ≡ cond b (Some n) (get names q)
    by true is = refl
    by false is = put_other names own m q is

given_bounded : (names : Values Named) (own : List ℕ) (n : Named) (most : ℕ) → IsBounded (most + 1) n → AreBounded most names → AreBounded (most + 1) (insert names own n)
given_bounded names own n most its few = bounded_by names own n most few its (insert names own n) (get_inserted names own n)

put_bounded : (names : Values Named) (own : List ℕ) (n : Named) (most : ℕ) → IsBounded (most + 1) n → AreBounded most names → AreBounded (most + 1) (insert (insert names own a.Used) own n)
put_bounded names own n most its few = bounded_by names own n most few its (insert (insert names own a.Used) own n) (put_twice names own a.Used n)

pub voice_counted : (names : Values Named) (own : List ℕ) (v : VoiceState) (most : ℕ) → AreBounded most names → AreBounded (most + 1) (insert names own (a.Connection v))
voice_counted names own v most few = given_bounded names own (a.Connection v) most tt few

pub voice_put_counted : (names : Values Named) (own : List ℕ) (v : VoiceState) (most : ℕ) → AreBounded most names → AreBounded (most + 1) (insert (insert names own a.Used) own (a.Connection v))
voice_put_counted names own v most few = put_bounded names own (a.Connection v) most tt few

pub used_counted : (names : Values Named) (own : List ℕ) (most : ℕ) → AreBounded most names → AreBounded (most + 1) (insert names own a.Used)
used_counted names own most few = given_bounded names own a.Used most tt few

pub holder_counted : (names : Values Named) (own : List ℕ) (g h : Holder) (most : ℕ) → get names own ≡ Some (a.Container g) → h.container.last ≤ g.container.last + 1 → AreBounded most names
    → AreBounded (most + 1) (insert (insert names own a.Used) own (a.Container h))
holder_counted names own g h most there more few = put_bounded names own (a.Container h) most (omega (arith, more, few own (a.Container g) there)) few

pub loaded_counted : (names : Values Named) (own : List ℕ) (l : Loaded) (most : ℕ) → IsFresh l → AreBounded most names → AreBounded (most + 1) (insert names own (named_for l))
loaded_counted names own l most fresh few = given_bounded names own (named_for l) most (by l fresh) few
  where
    by : (l : Loaded) → IsFresh l → IsBounded (most + 1) (named_for l)
    by (load.Held g) fresh = omega (arith, fresh)
    by (load.TurnedAway refusal) fresh = tt
    by load.NoSummary fresh = tt
    by (load.BadSummary path) fresh = tt

pub roamer_bounded : (names : Values Named) (own : List ℕ) (h : Roamer) (most : ℕ) → IsSendable h.outbox → AreBounded most names → AreBounded (most + 1) (insert (insert names own a.Used) own (a.Roamer h))
roamer_bounded names own h most kept few = put_bounded names own (a.Roamer h) most kept few

pub roamed_bounded : (names : Values Named) (own : List ℕ) (made : Option Roamer) (most : ℕ) → IsSendableIf made → AreBounded most names → AreBounded (most + 1) (insert names own (named_by made))
roamed_bounded names own made most kept few = given_bounded names own (named_by made) most (by made kept) few
  where
    by : (made : Option Roamer) → IsSendableIf made → IsBounded (most + 1) (named_by made)
    by (Some h) kept = kept
    by None kept = tt

pub same_counted : (names : Values Named) (most : ℕ) → AreBounded most names → AreBounded (most + 1) names
same_counted names most few = bounded_more most (most + 1) names (omega arith) few

-- what a roamer of a name has to send fits a record
pub kept_of : (names : Values Named) (own : List ℕ) (h : Roamer) → get names own ≡ Some (a.Roamer h) → (n : ℕ) × (AreBounded n names × (n < largest)) → IsSendable h.outbox
kept_of names own h there (n, (few, less)) = few own (a.Roamer h) there

-- what holds where the line is there holds where its bytes are
pub kept_ok : {K P : Type 0} (line result : Result (List ℕ) Stop) → IsWrittenOf line result → OnOk line K → (K → P) → OnOk result P
kept_ok (Ok text) (Ok bytes) is kept f = f kept
kept_ok (Ok text) (Err stop) is kept f = tt
kept_ok (Err stop) (Ok bytes) is kept f = absurd is
kept_ok (Err stop) (Err same) is kept f = tt

-- where a step answers Ok, whatever that is
pub counted_ok : {A E : Type 0} {P : Type 0} (result : Result A E) → P → OnOk result P
counted_ok (Ok value) h = h
counted_ok (Err fault) h = tt

-- the name that was taken is there
pub there_put : (names given : Values Named) (own : List ℕ) (n : Named) → given ≡ insert names own n → IsSome (get given own)
there_put names given own n is = subst (λ o. is_some o ≡ true) (sym (ap (λ t. get t own) is ∙ get_own names own n)) refl

-- its container has a number left
pub few_last : (names : Values Named) (own : List ℕ) (h : Holder) → get names own ≡ Some (a.Container h) → (n : ℕ) × (AreBounded n names × (n < largest)) → h.container.last < largest
few_last names own h there (n, (few, less)) = omega (arith, few own (a.Container h) there, less)
