-- The fields of an entry, and the entry.
use Rattle.std.proofs.Common.{◌≡◌, ℕ, ◌^◌, ◌<◌, Bool, true, false, cond, eqb, List, ◌++◌, length, Option, Some, None, Result, Ok, refl, sym, ap, subst, ◌∙◌, arith, inl, inr, ◌⊎◌}
use Rattle.std.proofs.lemmas.Bool.{eqb-true}
use Rattle.status_index.specs.declared.stat.Stat.{Stat}
use Rattle.status_index.specs.declared.mode.Mode.{Mode}
use Rattle.status_index.specs.declared.mode.Mode.TheVariants.{Dir, File, FileExecutable, Symlink, Commit}
use Rattle.status_index.specs.declared.id.ObjectId.{ObjectId}
use Rattle.status_index.specs.declared.id.ObjectId.TheVariants.{Sha1 as Sha1Id, Sha256 as Sha256Id}
use Rattle.status_index.specs.declared.id.HashKind.{HashKind}
use Rattle.status_index.specs.declared.id.HashKind.TheVariants.{Sha1, Sha256}
use Rattle.status_index.specs.BlobId.{id_kind, id_bytes}
use Rattle.status_index.specs.Mode.{mode_bits, mode_from_bits}
use Rattle.git_index.specs.declared.fault.Fault.{Fault}
use Rattle.git_index.specs.Numbers.{u32_bytes}
use Rattle.git_index.specs.RawEntry.{fixed_bytes, FixedFits, id_len}
use Rattle.git_index.specs.Reading.{u32_at, some_mode, mode_at, Numbers, numbers_at, stat_of, fixed_at, id_of, id_at}
use Rattle.git_index.proofs.Fields.{bind_ok, ok_is, Takes, IsReader, front_reader, both_reader, map_reader, u32_reader}

-- The same under other words for what fits.
pub fits_reader : {A : Type 0} {f : List ℕ → Result (A × List ℕ) Fault} {a : A → List ℕ} {P : A → Type 0} (Q : A → Type 0) → ((x : A) → P x → Q x) → ((x : A) → Q x → P x) → IsReader A f a P → IsReader A f a Q
fits_reader {A} {f} {a} {P} Q to from r = record {
  takes = λ bytes x rest fits e. let t = r.takes bytes x rest fits e in (t.0, to x t.1);
  again = λ x rest fits. r.again x rest (from x fits);
}

-- ---- the mode

some_pick : (b : Bool) (x m : Mode) (r : Option Mode) → cond b (Some x) r ≡ Some m → ((b ≡ true) × (x ≡ m)) ⊎ (r ≡ Some m)
some_pick true x m r e = inl (refl, cc)
some_pick false x m r e = inr e

mode_is : (n : ℕ) (m : Mode) → mode_from_bits n ≡ Some m → mode_bits m ≡ n
mode_is n m e =
    let found : (x : Mode) → eqb n (mode_bits x) ≡ true → x ≡ m → mode_bits m ≡ n = λ x t h. ap mode_bits (sym h) ∙ sym (eqb-true n (mode_bits x) t) in
    elim (some_pick (eqb n (mode_bits Dir)) Dir m _ e) [
      | inl h ↦ found Dir h.0 h.1
      | inr e1 ↦ elim (some_pick (eqb n (mode_bits File)) File m _ e1) [
        | inl h ↦ found File h.0 h.1
        | inr e2 ↦ elim (some_pick (eqb n (mode_bits FileExecutable)) FileExecutable m _ e2) [
          | inl h ↦ found FileExecutable h.0 h.1
          | inr e3 ↦ elim (some_pick (eqb n (mode_bits Symlink)) Symlink m _ e3) [
            | inl h ↦ found Symlink h.0 h.1
            | inr e4 ↦ elim (some_pick (eqb n (mode_bits Commit)) Commit m None e4) [
              | inl h ↦ found Commit h.0 h.1
              | inr e5 ↦ absurd cc
            ]
          ]
        ]
      ]
    ]

mode_again : (m : Mode) → mode_from_bits (mode_bits m) ≡ Some m
mode_again Dir = refl
mode_again File = refl
mode_again FileExecutable = refl
mode_again Symlink = refl
mode_again Commit = refl

mode_fits : (m : Mode) → mode_bits m < 2 ^ 32
mode_fits Dir = omega arith
mode_fits File = omega arith
mode_fits FileExecutable = omega arith
mode_fits Symlink = omega arith
mode_fits Commit = omega arith

some_mode_ok : (o : Option Mode) (r : List ℕ) (m : Mode) (rest : List ℕ) → some_mode o r ≡ Ok (m, rest) → (o ≡ Some m) × (r ≡ rest)
some_mode_ok None r m rest e = absurd cc
some_mode_ok (Some n) r m rest e = let p = ok_is (n, r) (m, rest) e in (ap (λ (x : Mode × List ℕ). Some x.0) p, ap (λ (x : Mode × List ℕ). x.1) p)

pub mode_reader : IsReader Mode mode_at (λ m. u32_bytes (mode_bits m)) (λ _. Unit {0})
unfolding mode_at
mode_reader = record {
  takes = λ bytes m rest fits e.
      let p = bind_ok (u32_at bytes) (λ bits. some_mode (mode_from_bits bits.0) bits.1) (m, rest) e in
      let t = u32_reader.takes bytes p.0.0 p.0.1 fits p.1 in
      let q = some_mode_ok (mode_from_bits p.0.0) p.0.1 m rest p.2 in
      let n : p.0.0 ≡ mode_bits m = sym (mode_is p.0.0 m q.0) in
      (subst (λ (r : List ℕ). Takes bytes (u32_bytes (mode_bits m)) r) q.1 (subst (λ (k : ℕ). Takes bytes (u32_bytes k) p.0.1) n t.0), tt);
  again = λ m rest fits. rw (u32_reader.again (mode_bits m) rest (mode_fits m), mode_again m) refl;
}

-- ---- the numbers

abbrev numbers_of : Stat × Mode → Numbers
numbers_of v = (v.0.ctime.secs, (v.0.ctime.nsecs, (v.0.mtime.secs, (v.0.mtime.nsecs, (v.0.dev, (v.0.ino, (v.1, (v.0.uid, (v.0.gid, v.0.size)))))))))

abbrev numbers_bytes : Numbers → List ℕ
numbers_bytes n =
    let m = n.1.1 in let o = m.1.1 in let p = o.1 in
    u32_bytes n.0 ++ (u32_bytes n.1.0 ++ (u32_bytes m.0 ++ (u32_bytes m.1.0 ++ (u32_bytes o.0 ++ (u32_bytes p.0
    ++ (u32_bytes (mode_bits p.1.0) ++ (u32_bytes p.1.1.0 ++ (u32_bytes p.1.1.1.0 ++ u32_bytes p.1.1.1.1))))))))

abbrev below : ℕ → Type 0
below n = n < 2 ^ 32

abbrev NumbersFit : Numbers → Type 0
NumbersFit n =
    let m = n.1.1 in let o = m.1.1 in let p = o.1 in
    below n.0 × (below n.1.0 × (below m.0 × (below m.1.0 × (below o.0 × (below p.0 × (Unit {0} × (below p.1.1.0 × (below p.1.1.1.0 × below p.1.1.1.1))))))))

numbers_reader : IsReader Numbers numbers_at numbers_bytes NumbersFit
numbers_reader = both_reader u32_reader (both_reader u32_reader (both_reader u32_reader (both_reader u32_reader (both_reader u32_reader (both_reader u32_reader (both_reader mode_reader (both_reader u32_reader (both_reader u32_reader u32_reader))))))))

-- ---- the id

id_again : (kind : HashKind) (id : ObjectId) → id_kind id ≡ kind → id_of kind (id_bytes id) ≡ id
id_again Sha1 (Sha1Id d) e = refl
id_again Sha256 (Sha256Id d) e = refl
id_again Sha1 (Sha256Id d) e = absurd cc
id_again Sha256 (Sha1Id d) e = absurd cc

id_back : (kind : HashKind) (bytes : List ℕ) → (id_bytes (id_of kind bytes) ≡ bytes) × (id_kind (id_of kind bytes) ≡ kind)
id_back Sha1 bytes = (refl, refl)
id_back Sha256 bytes = (refl, refl)

abbrev pub IdFits : HashKind → ObjectId → Type 0
IdFits kind id = (id_kind id ≡ kind) × (length (id_bytes id) ≡ id_len kind)

pub id_reader : (kind : HashKind) → IsReader ObjectId (id_at kind) id_bytes (IdFits kind)
unfolding id_at
id_reader kind = front_reader (id_len kind) (id_of kind) id_bytes (IdFits kind) (λ id fits. fits.1)
    (λ bytes len fits. let b = id_back kind bytes in (b.0, (b.1, ap length b.0 ∙ len)))
    (λ id fits. id_again kind id fits.0)

pub fixed_reader : IsReader (Stat × Mode) fixed_at (λ v. fixed_bytes v.0 v.1) (λ v. FixedFits v.0)
unfolding fixed_at fixed_bytes
fixed_reader = fits_reader (λ v. FixedFits v.0)
    (λ v f. record { ctime = (f.0, f.1.0); mtime = (f.1.1.0, f.1.1.1.0); dev = f.1.1.1.1.0; ino = f.1.1.1.1.1.0; uid = f.1.1.1.1.1.1.1.0; gid = f.1.1.1.1.1.1.1.1.0; size = f.1.1.1.1.1.1.1.1.1 })
    (λ v f. (f.ctime.0, (f.ctime.1, (f.mtime.0, (f.mtime.1, (f.dev, (f.ino, (tt, (f.uid, (f.gid, f.size))))))))))
    (map_reader stat_of numbers_of (λ _. refl) (λ _. refl) numbers_reader)
