-- Stats and the order of times: a write at the timestamp or later is racy, and stats that agree also agreed with an earlier
-- ctime.
use Rattle.std.proofs.Common.{◌≡◌, refl, ◌==◌, Bool, true, false, not, ◌&&◌, ◌||◌, arith}
use Rattle.std.proofs.lemmas.Bool.Decides.{nat_tests, Decides-eqb}
use Rattle.status_index.specs.declared.stat.Moment.{Moment}
use Rattle.status_index.specs.declared.stat.Options.{Options}
use Rattle.status_index.specs.declared.stat.Stat.{Stat}
use Rattle.status_index.specs.declared.stat.Time.{Time}
use Rattle.status_index.specs.Stat.{time_agrees, owner_agrees, stat_agrees, is_racy}
use Rattle.status_world.specs.Moments.{IsAtMost, moment_of}

-- A stat that was written at the timestamp or after it is racy.
pub racy_from_at_most : (o : Options) (t : Moment) (s : Stat) → IsAtMost t (moment_of s.mtime) → is_racy o t s ≡ true
racy_from_at_most o t s h = grind (arith, nat_tests)

-- Of three times in order, if the last agrees with the first, the second does too.
pub same_between : (o : Options) (a b c : Time) → IsAtMost (moment_of a) (moment_of b) → IsAtMost (moment_of b) (moment_of c)
    → time_agrees o c a ≡ true → time_agrees o b a ≡ true
same_between o a b c h k e = grind (arith, nat_tests)

-- A test of four parts, of which the third counts only if it is asked for.
third_for : (p q asked r r' t : Bool) → (r ≡ true → r' ≡ true) → (p && q && (not asked || r) && t) ≡ true → (p && q && (not asked || r') && t) ≡ true
third_for true true true true true t h e = e
third_for true true true true false t h e = cc (h refl)
third_for true true true false r' t h e = cc
third_for true true false r r' t h e = e
third_for true false asked r r' t h e = e
third_for false q asked r r' t h e = e

-- An entry that agrees with a stat after its ctime advanced agreed before.
pub agrees_before : (o : Options) (e s : Stat) (c : Time) → IsAtMost (moment_of e.ctime) (moment_of s.ctime) → IsAtMost (moment_of s.ctime) (moment_of c)
    → stat_agrees o (record s { ctime = c }) e ≡ true → stat_agrees o s e ≡ true
agrees_before o e s c h k =
    third_for (time_agrees o s.mtime e.mtime) (s.size == e.size) o.trust_ctime (time_agrees o c e.ctime) (time_agrees o s.ctime e.ctime) (not o.check_stat || owner_agrees o s e)
    (same_between o e.ctime s.ctime c h k)

-- Stats that agree have equal sizes.
agreed_part : (p q r t : Bool) → (p && q && r && t) ≡ true → q ≡ true
agreed_part true true r t e = refl
agreed_part true false r t e = e
agreed_part false q r t e = cc

pub agreed_size : (o : Options) (a b : Stat) → stat_agrees o a b ≡ true → a.size ≡ b.size
agreed_size o a b e =
    let one = agreed_part (time_agrees o a.mtime b.mtime) (a.size == b.size) (not o.trust_ctime || time_agrees o a.ctime b.ctime) (not o.check_stat || owner_agrees o a b) e in
    (Decides-eqb a.size b.size).0 one
