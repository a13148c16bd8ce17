-- A container of a version that is read tells what has changed since the tree of that version.
use Rattle.std.proofs.Common.{◌≡◌, ℕ, Bool, true, false, cond, List, [], ◌∷◌, Result, Ok, Err, bytes_eq, codes, refl, sym, ap, subst, ◌∙◌}
use Rattle.fluid_tree.specs.Summary.{Summary, Children, no_children, child, children}
use Rattle.fluid_tree.specs.declared.id.SummaryRef.{SummaryRef}
use Rattle.fluid_tree.specs.declared.object.ObjectEntry.{ObjectEntry}
use Rattle.fluid_types.specs.declared.fault.BlobFault.{BlobFault}
use Rattle.fluid_types.specs.declared.fault.BlobFault.TheVariants.{BadBlob, NoMemory}
use Rattle.fluid_runtime.specs.AppTree as app
use Rattle.fluid_runtime.specs.Laws.{IsMarked}
use Rattle.fluid_store.specs.Held.{Held}
use Rattle.fluid_loader.specs.Container.{begun}
use Rattle.fluid_loader.specs.Laws.{IsBased}
use Rattle.fluid_loader.specs.Version.{AVersion, ◌>>=◌, node_within, nodes_within, blob_under, first_of, next, end, channels_answer, quorum_answer, version_answer, entries_at, id_named, version_at}
use Rattle.fluid_loader.proofs.ReadBase.{app_tree_read}

pub bind_ok : {A B : Type 0} (r : Result A (List ℕ)) (f : A → Result B (List ℕ)) (b : B) → (r >>= f) ≡ Ok b → (a : A) × ((r ≡ Ok a) × (f a ≡ Ok b))
bind_ok (Ok a) f b h = (a, (refl, h))
bind_ok (Err e) f b h = cc

pub blob_ok : {A : Type 0} (name : List ℕ) (r : Result A BlobFault) (a : A) → blob_under name r ≡ Ok a → r ≡ Ok a
blob_ok name (Ok b) a h = let same : b ≡ a = cc in ap Ok same
blob_ok name (Err (BadBlob path)) a h = cc
blob_ok name (Err NoMemory) a h = cc

abbrev app_name : List ℕ
app_name = codes ".app"

end_ok : {A : Type 0} (cs : Children) (a b : A) → end cs a ≡ Ok b → a ≡ b
end_ok no_children a b h = cc
end_ok (child n s cs) a b h = cc

module _ (held : Held) (s : SummaryRef) where
  -- the first entry, whose id is that of the channels' tree
  record IsFirst (es : List ObjectEntry) (got : Summary × Children) : Type 0 where
    entry : ObjectEntry
    node : got.0 ≡ node_within held 2 entry
    base : id_named s.handle app_name es ≡ entry.id

  first_is : (es : List ObjectEntry) (got : Summary × Children) → next app_name (children (nodes_within held 2 es)) ≡ Ok got → IsFirst es got
  first_is [] got h = cc
  first_is (e ∷ es) got h = by_name (bytes_eq e.name app_name) refl h
    where
      by_name : (b : Bool) → bytes_eq e.name app_name ≡ b → cond b (Ok (node_within held 2 e, children (nodes_within held 2 es))) (Err (first_of e.name app_name)) ≡ Ok got → IsFirst (e ∷ es) got
      by_name true own k =
          let same : (node_within held 2 e, children (nodes_within held 2 es)) ≡ got = cc in
          record { entry = e; node = ap (λ g. g.0) (sym same); base = ap (λ b. cond b e.id (id_named s.handle app_name es)) own }
      by_name false other k = cc

  pub version_based_by : IsMarked → (v : AVersion) → version_at held s ≡ Ok v → IsBased held (begun v.channels v.quorum s.number v.base)
  version_based_by marked v h =
      let one = bind_ok (entries_at held s.handle) _ v h in
      let es = one.0 in
      let two = bind_ok (version_answer s.number (children (nodes_within held 2 es))) _ v one.1.1 in
      let three = bind_ok (next app_name (children (nodes_within held 2 es))) _ two.0 two.1.0 in
      let four = bind_ok (channels_answer three.0.0) _ two.0 three.1.1 in
      let five = bind_ok (next (codes ".protocol") three.0.1) _ two.0 four.1.1 in
      let six = bind_ok (quorum_answer s.number five.0.0) _ two.0 five.1.1 in
      let parts : (four.0, six.0) ≡ two.0 = end_ok five.0.1 (four.0, six.0) two.0 six.1.1 in
      let made : record { channels = two.0.0; quorum = two.0.1; base = id_named s.handle app_name es } ≡ v = let k = two.1.1 in cc in
      let first = first_is es three.0 three.1.0 in
      let read = app_tree_read held first.entry four.0 (ap app.answer (sym first.node) ∙ blob_ok app_name (app.answer three.0.0) four.0 four.1.0) in
      let channels : four.0 ≡ v.channels = ap (λ p. p.0) parts ∙ ap (λ (w : AVersion). w.channels) made in
      let base : first.entry.id ≡ v.base = sym first.base ∙ ap (λ (w : AVersion). w.base) made in
      subst (λ b. IsBased held (begun v.channels v.quorum s.number b)) base
      (subst (λ ch. IsBased held (begun ch v.quorum s.number first.entry.id)) channels
      (record { named = read.named; on = record { earlier = four.0; pairs = read.pairs; are = read.are; reads = read.reads; since = marked four.0 } }))

pub version_based : IsMarked → (held : Held) (s : SummaryRef) (v : AVersion) → version_at held s ≡ Ok v → IsBased held (begun v.channels v.quorum s.number v.base)
version_based marked held s v h = version_based_by held s marked v h
