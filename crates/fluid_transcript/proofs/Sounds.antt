-- Worlds that grow: what was sound stays so.
use Rattle.std.proofs.Common.{◌≡◌, ◌⊎◌, inl, inr, ℕ, ◌≤◌, ◌<◌, ◌^◌, arith, Bool, true, false, cond, if◌then◌else◌, List, [], ◌∷◌, ◌++◌, length, drop, Option, Some, None, bytes_eq, refl, sym, ap, subst, ◌∙◌}
use Rattle.std.specs.Prelude.{unwrap_or, IfSome}
use Rattle.std.specs.FinMap.{FinMap, get, insert}
use Rattle.std.proofs.lemmas.Fmt.{decimal_injective}
use Rattle.std.proofs.lemmas.Slice.Eq.{bytes_eq-Decides}
use Rattle.fluid_table.specs.Table.{byte_order}
use Rattle.fluid_table.proofs.Places.{get_inserted}
use Rattle.fluid_types.specs.Names.{entry_name}
use Rattle.fluid_types.specs.Ledger.{seq}
use Rattle.fluid_rules.proofs.Joined.{some_same}
use Rattle.fluid_store.specs.Held.{Keeps}
use Rattle.fluid_voice.specs.declared.states.VoiceState.{VoiceState}
use Rattle.fluid_voice.specs.declared.states.VoiceState.TheVariants.{Fresh, Reading, Writing, Used}
use Rattle.fluid_transcript.specs.World.{Document, Container, Name, connection, container, roamer, used_up, World, new_document, document, is_open, with_entries, farewells, Effect, with_name, grown, changed}
use Rattle.fluid_transcript.specs.Containers.{id_of}
use Rattle.fluid_transcript.specs.Transcript.{readied, at_line}
use Rattle.fluid_transcript.specs.Sound.{BeginsWith, DocumentGrows, Grows, GoesOn, GoesOnAs, ChangesOneName, client_in, ledger_in, IsClient, IsFed, IsSoundVoice, IsAcknowledged, IsSoundContainer, IsSoundName, IsSound}
use Rattle.fluid_transcript.proofs.Begins.{begins_self, begins_by, begins_on, begins_length, begins_any, ledger_begins, seq_begins, first_begin}

-- ---- growth

pub same_document : (d : Document) → DocumentGrows d d
same_document d = record { raws = begins_self d.raws; checkpoints = begins_self d.checkpoints }

pub document_on : (a b c : Document) → DocumentGrows a b → DocumentGrows b c → DocumentGrows a c
document_on a b c first second = record {
  raws = begins_on a.raws b.raws c.raws first.raws second.raws;
  checkpoints = begins_on a.checkpoints b.checkpoints c.checkpoints first.checkpoints second.checkpoints;
}

pub grows_on : (a b c : World) → Grows a b → Grows b c → Grows a c
grows_on a b c first second = record {
  documents = λ name. document_on (document a name) (document b name) (document c name) (first.documents name) (second.documents name);
  opened = begins_on a.opened b.opened c.opened first.opened second.opened;
  held = λ id bytes has. second.held id bytes (first.held id bytes has);
}

pub at_line_grows : (w : World) → Grows w (at_line w)
at_line_grows w = record { documents = λ name. same_document (document w name); opened = begins_self w.opened; held = λ id bytes has. has }

-- ---- another document under a name

module _ (documents : FinMap byte_order Document) (name : List ℕ) (new : Document) where
  pub document_inserted : (q : List ℕ) → unwrap_or (get (insert documents name new) q) new_document ≡ cond (bytes_eq q name) new (unwrap_or (get documents q) new_document)
  document_inserted q = ap (λ o. unwrap_or o new_document) (get_inserted documents name new q) ∙ by (bytes_eq q name)
    where
      by : (b : Bool) → unwrap_or (cond b (Some new) (get documents q)) new_document ≡ cond b new (unwrap_or (get documents q) new_document)
      by true = refl
      by false = refl

  pub document_own : unwrap_or (get (insert documents name new) name) new_document ≡ new
  document_own = document_inserted name ∙ ap (λ b. cond b new (unwrap_or (get documents name) new_document)) ((bytes_eq-Decides name name).1 refl)

  pub inserted_grow : DocumentGrows (unwrap_or (get documents name) new_document) new → (q : List ℕ)
      → DocumentGrows (unwrap_or (get documents q) new_document) (unwrap_or (get (insert documents name new) q) new_document)
  inserted_grow grows q = subst (DocumentGrows (unwrap_or (get documents q) new_document)) (sym (document_inserted q)) (by (bytes_eq q name) refl)
    where
      by : (b : Bool) → bytes_eq q name ≡ b → DocumentGrows (unwrap_or (get documents q) new_document) (cond b new (unwrap_or (get documents q) new_document))
      by true same = subst (λ k. DocumentGrows (unwrap_or (get documents k) new_document) new) (sym ((bytes_eq-Decides q name).0 same)) grows
      by false other = same_document (unwrap_or (get documents q) new_document)

-- a step of this document adds to it
pub grown_grows : (e : Effect) (d : Document) → DocumentGrows d (grown e d)
grown_grows e d = record { raws = begins_by d.raws e.entries; checkpoints = begins_by d.checkpoints e.checkpoints }

pub changed_grows : (e : Effect) (about : Option (List ℕ)) (w : World) → Keeps w.store e.store → Grows w (changed e about w)
changed_grows e None w keeps = record { documents = λ q. same_document (document w q); opened = begins_self w.opened; held = keeps }
changed_grows e (Some name) w keeps = record {
  documents = inserted_grow w.documents name (grown e (document w name)) (grown_grows e (document w name));
  opened = begins_self w.opened;
  held = keeps;
}

pub readied_grows : (w : World) (name : List ℕ) → Grows w (readied w name)
readied_grows w name = by (is_open w name)
  where
    by : (b : Bool) → Grows w (if b then w else (record w {
      documents = insert w.documents name (with_entries (farewells w.moment (document w name)) (document w name));
      opened = w.opened ++ name ∷ [];
    }))
    by true = record { documents = λ q. same_document (document w q); opened = begins_self w.opened; held = λ id bytes has. has }
    by false = record {
      documents = inserted_grow w.documents name (with_entries (farewells w.moment (document w name)) (document w name))
          (record { raws = begins_by (document w name).raws (farewells w.moment (document w name)); checkpoints = begins_self (document w name).checkpoints });
      opened = begins_by w.opened (name ∷ []);
      held = λ id bytes has. has;
    }

-- ---- what is sound in a world is so in one that it grows to

module _ (a b : World) (grows : Grows a b) where
  pub open_stays : (name : List ℕ) → is_open a name ≡ true → is_open b name ≡ true
  open_stays name h = begins_any (bytes_eq name) a.opened b.opened grows.opened h

  pub longer : (name : List ℕ) → length (document a name).raws ≤ length (document b name).raws
  longer name = begins_length (document a name).raws (document b name).raws (grows.documents name).raws

  pub ledger_on : (name : List ℕ) → BeginsWith (ledger_in a name) (ledger_in b name)
  ledger_on name = ledger_begins (document a name).raws (document b name).raws (grows.documents name).raws

  pub seq_on : (name : List ℕ) → seq (ledger_in a name) ≤ seq (ledger_in b name)
  seq_on name = seq_begins (ledger_in a name) (ledger_in b name) (ledger_on name)

  pub client_stays : (name id : List ℕ) → IsClient a name id → IsClient b name id
  client_stays name id h = record { open_is = open_stays name h.open_is; place = h.place; below = omega (arith, h.below, longer name); is = h.is }

  pub fed_stays : (name : List ℕ) (next : ℕ) → IsFed a name next → IsFed b name next
  fed_stays name next h = record { open_is = open_stays name h.open_is; within = omega (arith, h.within, seq_on name) }

  pub voice_stays : (s : VoiceState) → IsSoundVoice a s → IsSoundVoice b s
  voice_stays Fresh h = tt
  voice_stays (Reading name next) h = fed_stays name next h
  voice_stays (Writing name id next) h = (client_stays name id h.0, fed_stays name next h.1)
  voice_stays Used h = h

  pub container_stays : (k : Container) → IsSoundContainer a k → IsSoundContainer b k
  container_stays k h = record {
    open_is = open_stays k.document h.open_is;
    entries = omega (arith, h.entries, longer k.document);
    base = h.base;
    number = omega (arith, h.number, seq_on k.document);
    acknowledged =
        subst (λ ms. IsAcknowledged ms k.base) (sym (first_begin (ledger_in a k.document) (ledger_in b k.document) k.number (ledger_on k.document) h.number)) h.acknowledged;
  }

  pub name_stays : (n : Name) → IsSoundName a n → IsSoundName b n
  name_stays (connection voice) h = voice_stays voice h
  name_stays (container k) h = container_stays k h
  name_stays (roamer k) h = record { client = container_stays k.client h.client; from = h.from; base = h.base }
  name_stays used_up h = tt

  pub names_stay : (o : Option Name) → IfSome o (IsSoundName a) → IfSome o (IsSoundName b)
  names_stay None h = h
  names_stay (Some n) h = name_stays n h

-- ---- a world with the same names

pub same_names : (a b : World) → Grows a b → b.names ≡ a.names → IsSound a → IsSound b
same_names a b grows same sound = record {
  names = λ name. names_stay a b grows (get b.names name) (subst (λ names. IfSome (get names name) (IsSoundName a)) (sym same) (sound.names name));
  apart = λ one other name id first second fits.
      sound.apart one other name id (ap (λ names. client_in (get names one)) (sym same) ∙ first) (ap (λ names. client_in (get names other)) (sym same) ∙ second)
      (omega (arith, fits, longer a b grows name));
}

-- ---- a world in which one name changed

-- a client that its entry gave
pub record IsNewClient (old new : World) (name id : List ℕ) : Type 0 where
  pub place : ℕ
  pub is : id ≡ entry_name place
  pub behind : length (document old name).raws ≤ place
  pub below : place < length (document new name).raws

-- a name may stand for this behind a step
pub record NameFits (old new : World) (c : List ℕ) (n : Name) : Type 0 where
  pub sound : IsSoundName new n
  pub goes_on : GoesOnAs (get old.names c) (Some n)
  pub client : (name id : List ℕ) → client_in (Some n) ≡ Some (name, id) → (client_in (get old.names c) ≡ Some (name, id)) ⊎ IsNewClient old new name id

abbrev pub NamesFit : (old new : World) → Option (List ℕ × Name) → Type 0
NamesFit old new None = Unit {0}
NamesFit old new (Some named) = NameFits old new named.0 named.1

-- an entry gives an id to one client alone
pub one_place : (n m : ℕ) → n < 2 ^ 64 → m < 2 ^ 64 → entry_name n ≡ entry_name m → n ≡ m
one_place n m n_fits m_fits same = decimal_injective n m n_fits m_fits (ap (drop 1) same)

-- the place of a sound name's client
pub record IsPlaced (w : World) (name id : List ℕ) : Type 0 where
  pub place : ℕ
  pub is : id ≡ entry_name place
  pub below : place < length (document w name).raws

placed : (w : World) (o : Option Name) (name id : List ℕ) → IfSome o (IsSoundName w) → client_in o ≡ Some (name, id) → IsPlaced w name id
placed w None name id sound h = absurd (cc)
placed w (Some (connection Fresh)) name id sound h = absurd (cc)
placed w (Some (connection (Reading n next))) name id sound h = absurd (cc)
placed w (Some (connection (Writing n i next))) name id sound h =
    let same = some_same (n, i) (name, id) h in
    let same_name : n ≡ name = ap (λ pair. pair.0) same in
    let same_id : i ≡ id = ap (λ pair. pair.1) same in
    record {
      place = sound.0.place;
      is = sym same_id ∙ sound.0.is;
      below = subst (λ q. sound.0.place < length (document w q).raws) same_name sound.0.below;
    }
placed w (Some (connection Used)) name id sound h = absurd sound
placed w (Some (container k)) name id sound h =
    let same = some_same (k.document, id_of k) (name, id) h in
    let same_name : k.document ≡ name = ap (λ pair. pair.0) same in
    let same_id : id_of k ≡ id = ap (λ pair. pair.1) same in
    record { place = k.entries; is = sym same_id; below = subst (λ q. k.entries < length (document w q).raws) same_name sound.entries }
placed w (Some (roamer k)) name id sound h =
    let same = some_same (k.client.document, id_of k.client) (name, id) h in
    let same_name : k.client.document ≡ name = ap (λ pair. pair.0) same in
    let same_id : id_of k.client ≡ id = ap (λ pair. pair.1) same in
    record { place = k.client.entries; is = sym same_id; below = subst (λ q. k.client.entries < length (document w q).raws) same_name sound.client.entries }
placed w (Some used_up) name id sound h = absurd (cc)

module _ (old new : World) (grows : Grows old new) (sound : IsSound old) (c : List ℕ) (n : Name) (fits : NameFits old new c n)
    (is : (q : List ℕ) → get new.names q ≡ cond (bytes_eq q c) (Some n) (get old.names q)) where
  named_by : (q : List ℕ) (b : Bool) → IfSome (cond b (Some n) (get old.names q)) (IsSoundName new)
  named_by q true = fits.sound
  named_by q false = names_stay old new grows (get old.names q) (sound.names q)

  -- the client of another name isn't one that the step brought
  not_new : (q name id : List ℕ) → client_in (get old.names q) ≡ Some (name, id) → IsNewClient old new name id → length (document new name).raws ≤ 2 ^ 64 → c ≡ q
  not_new q name id client brought fits64 =
      let was = placed old (get old.names q) name id (sound.names q) client in
      let same : brought.place ≡ was.place = one_place brought.place was.place (omega (arith, brought.below, fits64)) (omega (arith, was.below, longer old new grows name, fits64)) (sym brought.is ∙ was.is) in
      let less : was.place < brought.place = omega (arith, was.below, brought.behind) in
      absurd (omega (arith, less, same))

  apart_from : (q name id : List ℕ) → client_in (Some n) ≡ Some (name, id) → client_in (get old.names q) ≡ Some (name, id) → length (document new name).raws ≤ 2 ^ 64 → c ≡ q
  apart_from q name id own client fits64 = by (fits.client name id own)
    where
      by : (client_in (get old.names c) ≡ Some (name, id)) ⊎ IsNewClient old new name id → c ≡ q
      by (inl was) = sound.apart c q name id was client (omega (arith, fits64, longer old new grows name))
      by (inr brought) = not_new q name id client brought fits64

  apart_by : (one other name id : List ℕ) (a b : Bool) → bytes_eq one c ≡ a → bytes_eq other c ≡ b
      → client_in (cond a (Some n) (get old.names one)) ≡ Some (name, id) → client_in (cond b (Some n) (get old.names other)) ≡ Some (name, id)
      → length (document new name).raws ≤ 2 ^ 64 → one ≡ other
  apart_by one other name id true true first_is second_is first second fits64 = (bytes_eq-Decides one c).0 first_is ∙ sym ((bytes_eq-Decides other c).0 second_is)
  apart_by one other name id true false first_is second_is first second fits64 = (bytes_eq-Decides one c).0 first_is ∙ apart_from other name id first second fits64
  apart_by one other name id false true first_is second_is first second fits64 = sym (apart_from one name id second first fits64) ∙ sym ((bytes_eq-Decides other c).0 second_is)
  apart_by one other name id false false first_is second_is first second fits64 =
      sound.apart one other name id first second (omega (arith, fits64, longer old new grows name))

  pub sound_named : IsSound new
  sound_named = record {
    names = λ q. subst (λ o. IfSome o (IsSoundName new)) (sym (is q)) (named_by q (bytes_eq q c));
    apart = λ one other name id first second fits64.
        apart_by one other name id (bytes_eq one c) (bytes_eq other c) refl refl (ap client_in (sym (is one)) ∙ first) (ap client_in (sym (is other)) ∙ second) fits64;
  }

  pub one_named : ChangesOneName old new
  one_named = record {
    name = c;
    others = λ q other. is q ∙ ap (λ b. cond b (Some n) (get old.names q)) other;
    goes_on = subst (GoesOnAs (get old.names c)) (sym (is c ∙ ap (λ b. cond b (Some n) (get old.names c)) ((bytes_eq-Decides c c).1 refl))) fits.goes_on;
  }

stays_self : (n : Name) → GoesOn n n
stays_self (connection voice) = tt
stays_self (container k) = record { document = refl; entries = refl; from = refl; base = refl; number = omega arith }
stays_self (roamer k) = record { document = refl; entries = omega arith; from = refl; base = refl; number = omega arith; stood = omega arith; said = omega arith }
stays_self used_up = tt

goes_on_self : (o : Option Name) → GoesOnAs o o
goes_on_self None = tt
goes_on_self (Some n) = stays_self n

pub none_named : (old new : World) → new.names ≡ old.names → ChangesOneName old new
none_named old new same = record {
  name = [];
  others = λ q other. ap (λ names. get names q) same;
  goes_on = subst (λ names. GoesOnAs (get old.names []) (get names [])) (sym same) (goes_on_self (get old.names []));
}

-- a step that fits leaves a sound world
pub record EffectFits (w : World) (about : Option (List ℕ)) (e : Effect) : Type 0 where
  pub held : Keeps w.store e.store
  pub name : NamesFit w (changed e about w) e.name

pub record StepLeaves (old new : World) : Type 0 where
  pub grows : Grows old new
  pub one_name : ChangesOneName old new
  pub sound : IsSound new

fits_by : (w : World) (about : Option (List ℕ)) (e : Effect) (named : Option (List ℕ × Name)) → e.name ≡ named → IsSound w → Keeps w.store e.store → NamesFit w (changed e about w) named
    → StepLeaves w (changed e about w)
fits_by w about e None is sound held fits =
    let same : (changed e about w).names ≡ w.names = ap (λ named. with_name named w.names) is in
    let grows = changed_grows e about w held in
    record { grows = grows; one_name = none_named w (changed e about w) same; sound = same_names w (changed e about w) grows same sound }
fits_by w about e (Some named) is sound held fits =
    let now : (q : List ℕ) → get (changed e about w).names q ≡ cond (bytes_eq q named.0) (Some named.1) (get w.names q) =
    λ q. ap (λ other. get (with_name other w.names) q) is ∙ get_inserted w.names named.0 named.1 q in
    let grows = changed_grows e about w held in
    record {
      grows = grows;
      one_name = one_named w (changed e about w) grows sound named.0 named.1 fits now;
      sound = sound_named w (changed e about w) grows sound named.0 named.1 fits now;
    }

pub fitting_leaves : (w : World) (about : Option (List ℕ)) (e : Effect) → IsSound w → EffectFits w about e → StepLeaves w (changed e about w)
fitting_leaves w about e sound fits = fits_by w about e e.name refl sound fits.held fits.name
