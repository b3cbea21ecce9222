-- A map from ids to contents, as the contents that are found.
use Rattle.std.proofs.Common.{◌≡◌, ℕ, Bool, true, false, cond, List, [], ◌∷◌, Option, Some, refl, sym, ap, ◌∙◌}
use Rattle.std.specs.Option.{option_map}
use Rattle.std.specs.Ordering.{nat_cmp, is_eq, eq_by_cmp, ordering_reverse}
use Rattle.std.specs.Cmp.Lexicographic.{slice_cmp}
use Rattle.std.specs.declared.cmp.Ordering.{Ordering}
use Rattle.std.specs.declared.cmp.Ordering.TheVariants.{Less, Equal}
use Rattle.std.specs.Cmp.{IsTotalOrder, eq_by_cmp_equiv}
use Rattle.std.specs.Global.{Vec}
use Rattle.std.specs.List.{AllZip}
use Rattle.std.specs.Map.{lookup}
use Rattle.std.specs.FinMap as ids
use Rattle.std.proofs.lemmas.Cmp.{nat_list_cmp_total}
use Rattle.status_index.specs.contracts.id.ObjectIdOrd.TheImpl as order
use Rattle.status_index.specs.declared.id.ObjectId.{ObjectId}
use Rattle.status_index.specs.declared.id.ObjectId.TheVariants.{Sha1, Sha256}
use Rattle.status_base.specs.Objects.{id_cmp, content_entries, contents_of, Contents}

abbrev pub Held : Type 0
Held = List (ObjectId × Vec ℕ)

turned : (x y : ObjectId) → id_cmp x y ≡ ordering_reverse (id_cmp y x)
turned (Sha1 a) (Sha1 b) = nat_list_cmp_total.antisymm a b
turned (Sha256 a) (Sha256 b) = nat_list_cmp_total.antisymm a b
turned (Sha1 a) (Sha256 b) = refl
turned (Sha256 a) (Sha1 b) = refl

chained : (x y z : ObjectId) → id_cmp x y ≡ Less → id_cmp y z ≡ Less → id_cmp x z ≡ Less
chained (Sha1 a) (Sha1 b) (Sha1 c) g h = nat_list_cmp_total.trans a b c g h
chained (Sha1 a) (Sha1 b) (Sha256 c) g h = refl
chained (Sha1 a) (Sha256 b) (Sha1 c) g h = cc
chained (Sha1 a) (Sha256 b) (Sha256 c) g h = refl
chained (Sha256 a) (Sha1 b) z g h = cc
chained (Sha256 a) (Sha256 b) (Sha1 c) g h = cc
chained (Sha256 a) (Sha256 b) (Sha256 c) g h = nat_list_cmp_total.trans a b c g h

alike : (x y z : ObjectId) → id_cmp x y ≡ Equal → id_cmp x z ≡ id_cmp y z
alike (Sha1 a) (Sha1 b) (Sha1 c) h = nat_list_cmp_total.congr a b c h
alike (Sha1 a) (Sha1 b) (Sha256 c) h = refl
alike (Sha1 a) (Sha256 b) z h = cc
alike (Sha256 a) (Sha1 b) z h = cc
alike (Sha256 a) (Sha256 b) (Sha1 c) h = refl
alike (Sha256 a) (Sha256 b) (Sha256 c) h = nat_list_cmp_total.congr a b c h

id_cmp_total : IsTotalOrder id_cmp
id_cmp_total = record { antisymm = turned; trans = chained; congr = alike }

same_digest : ids.IsAntisymmetric (slice_cmp nat_cmp)
same_digest = ids.slice_cmp-IsAntisymmetric ids.nat_cmp-IsAntisymmetric

id_cmp-IsAntisymmetric : ids.IsAntisymmetric id_cmp
id_cmp-IsAntisymmetric (Sha1 a) (Sha1 b) h = ap Sha1 (same_digest a b h)
id_cmp-IsAntisymmetric (Sha1 a) (Sha256 b) h = cc
id_cmp-IsAntisymmetric (Sha256 a) (Sha1 b) h = cc
id_cmp-IsAntisymmetric (Sha256 a) (Sha256 b) h = ap Sha256 (same_digest a b h)

abbrev pub items_of : Option (Vec ℕ) → Option (List ℕ)
items_of = option_map (λ v. v.items)

find-content : (es : Held) (q : ObjectId) → ids.find id_cmp q (content_entries es) ≡ items_of (lookup (λ k. is_eq (id_cmp q k)) es)
find-content [] q = refl
find-content (e ∷ es) q =
    elim (eq_by_cmp id_cmp q e.0) as (λ b. cond b (Some e.1.items) (ids.find id_cmp q (content_entries es)) ≡ items_of (cond b (Some e.1) (lookup (λ k. is_eq (id_cmp q k)) es))) [
      | true ↦ refl
      | false ↦ find-content es q
    ]

get-content : (es : Held) (q : ObjectId) → ids.get (contents_of es) q ≡ items_of (lookup (λ k. is_eq (id_cmp q k)) es)
get-content es q = ids.get-from_entries id_cmp_total (content_entries es) q ∙ find-content es q

items_cond : (b : Bool) (w o : Option (Vec ℕ)) → items_of (cond b w o) ≡ cond b (items_of w) (items_of o)
items_cond true w o = refl
items_cond false w o = refl

abbrev cmp : ObjectId → ObjectId → Ordering
cmp = (order.ghosts).cmp

-- the ids' own comparison
agrees : (x y : ObjectId) → cmp x y ≡ id_cmp x y
agrees (Sha1 a) (Sha1 b) = refl
agrees (Sha256 a) (Sha256 b) = refl
agrees (Sha1 a) (Sha256 b) = refl
agrees (Sha256 a) (Sha1 b) = refl

found_by_id : (q : ObjectId) (es : Held) → lookup (λ x. is_eq (cmp q x)) es ≡ lookup (λ x. is_eq (id_cmp q x)) es
found_by_id q es = λ i. lookup (λ x. is_eq (agrees q x i)) es

contents-get : (es : Held) (contents : Contents) (k : ObjectId) → contents_of es ≡ contents
    → items_of (lookup (λ x. is_eq (cmp k x)) es) ≡ ids.get contents k
contents-get es contents k is = ap items_of (found_by_id k es) ∙ sym (get-content es k) ∙ ap (λ (c : Contents). ids.get c k) is

-- the result of a look-up in the contents
pub contents-found : (es : Held) (contents : Contents) (k : ObjectId) (found : Option (Vec ℕ)) → contents_of es ≡ contents
    → found ≡ lookup (λ x. is_eq (cmp k x)) es → items_of found ≡ ids.get contents k
contents-found es contents k found is at = ap items_of at ∙ contents-get es contents k is

get-updated : (old new : Held) (k : ObjectId) (v : Vec ℕ)
    → ((q : ObjectId) → lookup (λ x. is_eq (cmp q x)) new ≡ cond (is_eq (cmp k q)) (Some v) (lookup (λ x. is_eq (cmp q x)) old))
    → (q : ObjectId) → ids.get (contents_of new) q ≡ cond (eq_by_cmp id_cmp q k) (Some v.items) (ids.get (contents_of old) q)
get-updated old new k v updated q =
    sym (contents-get new _ q refl) ∙ ap items_of (updated q) ∙ items_cond (is_eq (cmp k q)) (Some v) _
    ∙ ap (λ b. cond b (Some v.items) (items_of (lookup (λ x. is_eq (cmp q x)) old))) (ap is_eq (agrees k q) ∙ (eq_by_cmp_equiv id_cmp_total).symm k q)
    ∙ ap (cond (eq_by_cmp id_cmp q k) (Some v.items)) (contents-get old _ q refl)

-- the contents after one was put
pub contents-insert : (old new : Held) (contents : Contents) (k : ObjectId) (v : Vec ℕ) (bytes : List ℕ) → contents_of old ≡ contents → v.items ≡ bytes
    → ((q : ObjectId) → lookup (λ x. is_eq (cmp q x)) new ≡ cond (is_eq (cmp k q)) (Some v) (lookup (λ x. is_eq (cmp q x)) old))
    → contents_of new ≡ ids.insert contents k bytes
contents-insert old new contents k v bytes was is updated =
    ids.same_map id_cmp_total id_cmp-IsAntisymmetric _ _ (λ q. get-updated old new k v updated q ∙ sym (ids.get-insert id_cmp_total _ k v.items q))
    ∙ ap (λ (c : Contents). ids.insert c k v.items) was ∙ ap (ids.insert contents k) is

-- entries with the same ids and contents
pub contents-cloned : {C : ObjectId → ObjectId → Type 0} {D : Vec ℕ → Vec ℕ → Type 0} → ((x y : ObjectId) → C x y → y ≡ x) → ((v w : Vec ℕ) → D v w → w.items ≡ v.items)
    → (old new : Held) → AllZip (λ p q. C p.0 q.0 × D p.1 q.1) old new → contents_of new ≡ contents_of old
contents-cloned {C} {D} same_id same_items old new h = ap ids.from_entries (entries old new h)
  where
    entries : (old new : Held) → AllZip (λ p q. C p.0 q.0 × D p.1 q.1) old new → content_entries new ≡ content_entries old
    entries [] [] h = refl
    entries [] (y ∷ ys) h = absurd h
    entries (x ∷ xs) [] h = absurd h
    entries (x ∷ xs) (y ∷ ys) h = λ i. (same_id x.0 y.0 h.0.0 i, same_items x.1 y.1 h.0.1 i) ∷ entries xs ys h.1 i
