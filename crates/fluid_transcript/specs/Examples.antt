-- Worked examples: what steps write.
use Rattle.std.specs.Prelude.{◌≡◌, [], ◌∷◌, ◌++◌, List, ℕ, codes, take}
use Rattle.std.specs.FinMap.{empty}
use Rattle.fluid_json.specs.Tree.{null}
use Rattle.fluid_types.specs.declared.entries.Raw.{Raw}
use Rattle.fluid_types.specs.declared.entries.Raw.TheVariants.{Join, Leave, Submit}
use Rattle.fluid_types.specs.declared.entries.Offered.TheVariants.{Op}
use Rattle.fluid_rules.specs.declared.limits.Limits.{Limits}
use Rattle.fluid_edits.specs.declared.edit.Edit.TheVariants.{Attach, Clear}
use Rattle.fluid_edits.specs.declared.edit.ChannelKind.TheVariants.{Map}
use Rattle.fluid_edits.specs.Forms.{contents_of}
use Rattle.fluid_edits.specs.Replay.{no_channels}
use Rattle.fluid_loader.specs.Submitting.{numbered}
use Rattle.fluid_transcript.specs.World.{World, Document, Container, new_document}
use Rattle.fluid_transcript.specs.Documents.{scribed, checkpointed, restarted, reopened, swept, counted_up}
use Rattle.fluid_transcript.specs.Containers.{load, pumped, beaten, all_scopes}
use Rattle.fluid_loader.specs.declared.link.Pick.TheVariants as pick

-- ---- a world at line 20, where nothing is held and no name is given

abbrev pub nothing : World
nothing = record { documents = empty; opened = []; store = empty; names = empty; moment = 20 }

-- few of everything
abbrev pub few : Limits
few = record { entries = 8; clients = 2; checkpoints = 2; bytes = 1000 }

abbrev pub d : List ℕ
d = codes "d"

-- two containers join; the first attaches `m` and sets a key of it, the second clears it and sets the key
abbrev pub raws : List Raw
raws =
    Join (codes "c0") all_scopes null 1
    ∷ Submit (codes "c0") (numbered 1 1 Op (contents_of (Attach (codes "m") Map))) 2
    ∷ Join (codes "c2") all_scopes null 3
    ∷ Submit (codes "c0") (numbered 2 1 Op (contents_of (Clear (codes "m")))) 4
    ∷ Submit (codes "c2") (numbered 1 3 Op (contents_of (Clear (codes "m")))) 5
    ∷ Submit (codes "c2") (numbered 2 3 Op (contents_of (Clear (codes "m")))) 6
    ∷ []

abbrev pub two_clients : Document
two_clients = record { raws = raws; checkpoints = 0 ∷ 3 ∷ [] }

-- a document on which a second container is loaded behind an attach
abbrev pub one_client : Document
one_client = record { raws = take 2 raws; checkpoints = [] }

-- the first container, which was loaded at number 1, with its two edits on their way
abbrev pub p : Container
p = record { document = d; entries = 0; from = no_channels; base = 0; number = 1; pending = Attach (codes "m") Map ∷ Clear (codes "m") ∷ [] }

-- ---- documents

-- a document that is new
pub record NewDocument : Type 0 where
  pub count : (counted_up nothing new_document d).lines ≡ codes "d 0 entries, number 0, minimum 0" ∷ []
  pub restart : (restarted nothing new_document d 0).lines ≡ codes "d no checkpoint 0 of 0" ∷ []
  pub reopen : (reopened nothing new_document d).lines ≡ codes "d reopened: 0 entries, number 0, minimum 0" ∷ []
  pub sweep : (swept nothing new_document d 0).lines ≡ codes "d swept none" ∷ []
  pub scribe : (scribed nothing new_document d).lines ≡ codes "d scribe idle" ∷ []

-- two clients, and two checkpoints, which are as many as may be
pub record TwoClients : Type 0 where
  pub count : (counted_up nothing two_clients d).lines ≡ codes "d 6 entries, number 6, minimum 1" ∷ []
  pub restart : (restarted nothing two_clients d 1).lines ≡ codes "d restarted from 1: 6 entries, number 6, minimum 1" ∷ []
  pub largest : (restarted nothing two_clients d 9007199254740991).lines ≡ codes "d no checkpoint 9007199254740991 of 2" ∷ []
  pub full : (checkpointed few nothing two_clients d).lines ≡ codes "d checkpoints full" ∷ []
  pub reopen : (reopened nothing two_clients d).lines ≡ codes "d reopened: 8 entries, number 8, minimum 8" ∷ []
  pub leaves : (reopened nothing two_clients d).entries ≡ Leave (codes "c0") 20 ∷ Leave (codes "c2") 20 ∷ []

-- the first client was last heard of at moment 4, the second at 6
pub record Sweeps : Type 0 where
  pub first : (swept nothing two_clients d 15).lines ≡ codes "d swept c0" ∷ []
  pub its_leave : (swept nothing two_clients d 15).entries ≡ Leave (codes "c0") 20 ∷ []
  pub none : (swept nothing two_clients d 16).lines ≡ codes "d swept none" ∷ []

-- ---- containers

-- the second container joins behind two entries
pub record Loads : Type 0 where
  pub loaded : (load few nothing one_client (codes "q") d pick.Empty).lines ≡ codes "q loaded d at 3" ∷ []
  pub join : (load few nothing one_client (codes "q") d pick.Empty).entries ≡ Join (codes "c2") all_scopes null 20 ∷ []
  pub no_summary : (load few nothing one_client (codes "s") d pick.Latest).lines ≡ codes "s no summary" ∷ []
  pub joined_all_the_same : (load few nothing one_client (codes "s") d pick.Latest).entries ≡ Join (codes "c2") all_scopes null 20 ∷ []
  pub too_many : (load few nothing two_clients (codes "r") d pick.Empty).lines ≡ codes "r refused 429: too many clients" ∷ []
  pub nobody_joined : (load few nothing two_clients (codes "r") d pick.Empty).entries ≡ []
  pub full : (load (record few { entries = 6 }) nothing two_clients (codes "r") d pick.Empty).lines ≡ codes "r refused 429: document is full" ∷ []

-- the first container goes on to the last message, says where it is, and finds the document full
pub record GoesOn : Type 0 where
  pub pumped : (pumped nothing two_clients (codes "p") p).lines ≡ codes "p at 6" ∷ []
  pub beats : (beaten few nothing two_clients (codes "p") (record p { number = 6 })).lines ≡ codes "p beats at 6" ∷ []
  pub full : (beaten (record few { entries = 6 }) nothing two_clients (codes "p") p).lines ≡ codes "p refused 429: document is full" ∷ []
  pub nothing_entered : (beaten (record few { entries = 6 }) nothing two_clients (codes "p") p).entries ≡ []
  -- its client has left
  pub gone : (beaten few nothing (record { raws = take 2 raws ++ Leave (codes "c0") 19 ∷ []; checkpoints = [] }) (codes "p") p).lines ≡ codes "p refused 400: Nonexistent client" ∷ []
