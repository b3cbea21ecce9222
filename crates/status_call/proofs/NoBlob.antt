-- Comparison by ids or sizes reads no blob, and its reads are modelled.
use Rattle.std.proofs.Common.{◌≡◌, refl, sym, ap, subst, ℕ, Bool, true, false, cond, List, [], ◌∷◌, sum_by, Option, unwrap_or, IsTrue, is_some, arith}
use Rattle.std.proofs.lemmas.List.Sums.{sum_by-cons}
use Rattle.status_index.specs.Content.{saturate}
use Rattle.status_index.specs.Entries.{IndexEntry}
use Rattle.status_index.specs.declared.id.ObjectId.{ObjectId}
use Rattle.status_index.specs.declared.stat.Metadata.{Metadata}
use Rattle.status_compare.specs.Comparers.{size_decides, counts_after_hash}
use Rattle.status_compare.specs.Reading.{Reading, fails, streams, target}
use Rattle.status_compare.specs.Reads.{no_reads}
use Rattle.status_compare.specs.declared.read_data.Reads.{Reads}
use Rattle.status_call.specs.Counts.{is_looked_at, is_compared_case, reads_of, reads_of_case, reads_of_found, ModelsReads}
use Rattle.status_call.specs.Laws.{ReadsNoBlob, IdReadsLaw, SizeReadsLaw}
use Rattle.status_call.specs.Query.{Query}
use Rattle.status_call.specs.Status.{Found, nothing, refused, directory, present, case_of, found, readings}

abbrev IsWithoutBlob : Reads → Type 0
IsWithoutBlob k = (k.objects ≡ 0) × (k.object_bytes ≡ 0)

after_hash : (r : Reading) → IsWithoutBlob (counts_after_hash r no_reads)
after_hash (fails e) = (refl, refl)
after_hash (streams content size) = (refl, refl)
after_hash (target bytes) = (refl, refl)

by_test : (b : Bool) (k : Reads) → IsWithoutBlob k → IsWithoutBlob (cond b k no_reads)
by_test true k h = h
by_test false k h = (refl, refl)

by_sizes : (b : Bool) (k : Reads) → IsWithoutBlob k → IsWithoutBlob (cond b no_reads k)
by_sizes true k h = (refl, refl)
by_sizes false k h = h

sum_of_none : (f : IndexEntry → ℕ) → ((e : IndexEntry) → f e ≡ 0) → (es : List IndexEntry) → sum_by f es ≡ 0
sum_of_none f h [] = refl
sum_of_none f h (e ∷ es) = omega (arith, sum_by-cons f e es, h e, sum_of_none f h es)

module _ {T U : Type 0} (q : Query T U) where
  abbrev counted_at : IndexEntry → Metadata → Option Reads
  counted_at e n = q.counted e n.len (readings q e n) no_reads

  abbrev IsCounted : Type 0
  IsCounted = (e : IndexEntry) (n : Metadata) → IsWithoutBlob (unwrap_or (counted_at e n) no_reads)

  module _ (counted : IsCounted) where
    of_found : (e : IndexEntry) (x : Found) → IsWithoutBlob (reads_of_found q e x)
    of_found e nothing = (refl, refl)
    of_found e (refused f) = (refl, refl)
    of_found e directory = (refl, refl)
    of_found e (present n) = counted e n

    of_entry : (e : IndexEntry) → IsWithoutBlob (reads_of q e)
    of_entry e =
        by_test (is_looked_at q e) (reads_of_case q e)
        (by_test (is_compared_case (case_of q e)) (reads_of_found q e (found q e)) (of_found e (found q e)))

    no_blob : ModelsReads q → ReadsNoBlob q
    no_blob modelled = record {
      modelled = modelled;
      objects = λ es. ap saturate (sum_of_none (λ e. (reads_of q e).objects) (λ e. (of_entry e).0) es);
      object_bytes = λ es. ap saturate (sum_of_none (λ e. (reads_of q e).object_bytes) (λ e. (of_entry e).1) es);
    }

abbrev IsModelledWithoutBlob : Option Reads → Type 0
IsModelledWithoutBlob o = IsTrue (is_some o) × IsWithoutBlob (unwrap_or o no_reads)

by_counts : {T U : Type 0} (q : Query T U) → ((e : IndexEntry) (n : Metadata) → IsModelledWithoutBlob (counted_at q e n)) → ReadsNoBlob q
by_counts q h = no_blob q (λ e n. (h e n).1) (λ e n. (h e n).0)

pub id_reads_law : {U : Type 0} (q : Query ObjectId U) → IdReadsLaw q
id_reads_law q is =
    by_counts q (λ e n. subst (λ (o : Option Reads). IsModelledWithoutBlob o)
    (sym (ap (λ f. f e n.len (readings q e n) no_reads) is)) (refl, after_hash (readings q e n).file))

pub size_reads_law : {U : Type 0} (q : Query (Unit {0}) U) → SizeReadsLaw q
size_reads_law q is =
    by_counts q (λ e n. subst (λ (o : Option Reads). IsModelledWithoutBlob o)
    (sym (ap (λ f. f e n.len (readings q e n) no_reads) is))
    (refl, by_sizes (size_decides e n.len) (counts_after_hash (readings q e n).file no_reads) (after_hash (readings q e n).file)))
