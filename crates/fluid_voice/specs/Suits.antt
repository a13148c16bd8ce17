-- Which ends an act may have, whatever is told of the document.
use Rattle.std.specs.Prelude.{◌≡◌, ◌≤◌, ⊤, ℕ, ◌-◌, ℤ, Bool, true, false, List, length, IfSome, Ok, Err}
use Rattle.sha1.specs.Sha1.{sha1}
use Rattle.fluid_types.specs.declared.fault.Field.{Field}
use Rattle.fluid_codec.specs.declared.events.Asked.{Asked}
use Rattle.fluid_codec.specs.declared.events.Asked.TheVariants.{Latest, Handle}
use Rattle.fluid_codec.specs.declared.replies.Reply.TheVariants.{Nacked, Deltas, Summary, Object, Stored}
use Rattle.fluid_voice.specs.declared.refusals.ConnectRefusal.TheVariants.{TooManyDocuments}
use Rattle.fluid_voice.specs.declared.actions.Act.{Act}
use Rattle.fluid_voice.specs.declared.actions.Act.TheVariants as act
use Rattle.fluid_voice.specs.declared.ends.ActEnd.{ActEnd}
use Rattle.fluid_voice.specs.declared.ends.ActEnd.TheVariants.{Said, Joined, Told, Entered, FullNow, TooMany, Given}
use Rattle.fluid_voice.specs.Refusals.{refused}
use Rattle.fluid_voice.specs.Ends.{Outcome, range_asked, range_nack}
use Rattle.fluid_voice.specs.Ends.Outcome.{ends, clashes}

-- who writes joins or is refused, who reads is told a number; beyond the limit of documents both are refused
abbrev pub SuitsConnect : Bool → ActEnd → Type 0
SuitsConnect true (Joined id number) = 1 ≤ number
SuitsConnect true FullNow = ⊤
SuitsConnect true TooMany = ⊤
SuitsConnect false (Told last) = ⊤
SuitsConnect write (Given reply) = reply ≡ refused TooManyDocuments
SuitsConnect write end = ⊥

abbrev pub SuitsEntry : ActEnd → Type 0
SuitsEntry (Entered verdict) = ⊤
SuitsEntry FullNow = ⊤
SuitsEntry end = ⊥

-- the range that was asked for of an order with some last number, with as many messages; or which number is out of its range
abbrev pub SuitsDeltas : ℤ → ℤ → ActEnd → Type 0
SuitsDeltas from to (Given (Deltas first messages)) =
    (last end : ℕ) × ((range_asked last from to ≡ Ok (first, end)) × (length messages ≤ end - first))
SuitsDeltas from to (Given (Nacked name nack)) = (last : ℕ) × ((f : Field) × ((range_asked last from to ≡ Err f) × (nack ≡ range_nack f)))
SuitsDeltas from to end = ⊥

-- a handle that was asked for is the one that is given
abbrev pub IsAsked : Asked → List ℕ → Type 0
IsAsked Latest handle = ⊤
IsAsked (Handle asked) handle = handle ≡ asked

abbrev pub SuitsSummary : Asked → ActEnd → Type 0
SuitsSummary asked (Given (Summary found)) = IfSome found (λ pair. IsAsked asked pair.0)
SuitsSummary asked end = ⊥

abbrev pub SuitsGet : List ℕ → ActEnd → Type 0
SuitsGet id (Given (Object given bytes)) = given ≡ id
SuitsGet id end = ⊥

abbrev pub SuitsPut : List ℕ → ActEnd → Type 0
SuitsPut bytes (Given (Stored id)) = id ≡ sha1 bytes
SuitsPut bytes end = ⊥

abbrev pub Suits : Act → ActEnd → Type 0
Suits (act.Say reply) end = end ≡ Said
Suits (act.Connect name write scopes detail moment) end = SuitsConnect write end
Suits (act.Enter raw) end = SuitsEntry end
Suits (act.Deltas from to) end = SuitsDeltas from to end
Suits (act.Summary asked) end = SuitsSummary asked end
Suits (act.GetObject id) end = SuitsGet id end
Suits (act.PutObject bytes) end = SuitsPut bytes end

-- a clash comes of a put alone
abbrev pub OutcomeSuits : Act → Outcome → Type 0
OutcomeSuits act (ends end) = Suits act end
OutcomeSuits (act.PutObject bytes) (clashes id kept new) = (new ≡ bytes) × (id ≡ sha1 bytes)
OutcomeSuits act (clashes id kept new) = ⊥
