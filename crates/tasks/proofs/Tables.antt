-- What the tests of a table say, and which answer each finding gives.
use mathlib.Core.Path.{◌≡◌, refl, sym, ap, ◌∙◌}
use mathlib.Core.Bool.{Bool, true, false, not, ◌&&◌}
use Prim.Native.Nat.{ℕ, ◌≤◌, ◌<◌}
use lib.Dec.{leb}
use native.Mathlib.Omega.{arith}
use borrow.Author.Tests.{le-leb, leb-true, not-true, not-false}
use Rattle.tasks.proofs.Below.{any_make, any_each, any_none, first_holds, first_before, first_is}
use Rattle.tasks.proofs.Bools.{both, both_make}
use Rattle.tasks.specs.Below.{any, first}
use Rattle.tasks.specs.Refusals.{number}
use Rattle.tasks.specs.Tables.{task_no, cores_fit, tasks_fit, values_fit, checked_tasks}
use Rattle.tasks.specs.Answers.{Accepted, Refused}
use Rattle.tasks.specs.declared.Refusal.{Refusal}
use Rattle.tasks.specs.declared.Refusal.TheVariants.{CoresGiven, TasksGiven, ValuesOf}
use Rattle.tasks.specs.declared.Task.{Task}
use Rattle.tasks.proofs.Answers.{accepted_not, refused_is}

-- 1 ≤ c ≤ d ≤ p ≤ 1,000,000, as orders
pub record Ranges (t : Task) : Type 0 where
  pub some : 1 ≤ t.cost
  pub short : t.cost ≤ t.deadline
  pub inside : t.deadline ≤ t.period
  pub most : t.period ≤ 1000000

pub values_say : (t : Task) → values_fit t ≡ true → Ranges t
values_say t h =
    let a : (leb 1 t.cost && leb t.cost t.deadline && leb t.deadline t.period ≡ true) × (leb t.period 1000000 ≡ true) = both h in
    let b : (leb 1 t.cost && leb t.cost t.deadline ≡ true) × (leb t.deadline t.period ≡ true) = both a.0 in
    let d : (leb 1 t.cost ≡ true) × (leb t.cost t.deadline ≡ true) = both b.0 in
    record { some = leb-true _ _ d.0; short = leb-true _ _ d.1; inside = leb-true _ _ b.1; most = leb-true _ _ a.1 }

pub counts_say : (x most : ℕ) → leb 1 x && leb x most ≡ true → (1 ≤ x) × (x ≤ most)
counts_say x most h = let a : (leb 1 x ≡ true) × (leb x most ≡ true) = both h in (leb-true _ _ a.0, leb-true _ _ a.1)

-- the last of four tests decides where the others pass
pub values_last : (t : Task) → 1 ≤ t.cost → t.cost ≤ t.deadline → t.deadline ≤ t.period → leb t.period 1000000 ≡ values_fit t
values_last t a b d = rw (le-leb 1 t.cost a, le-leb t.cost t.deadline b, le-leb t.deadline t.period d)

module _ (m n : ℕ) (ts : ℕ → Task) where
  pub bad_cores : cores_fit m ≡ false → checked_tasks m n ts ≡ Refused (CoresGiven m)
  unfolding checked_tasks
  bad_cores h = rw h

  module _ (cores : cores_fit m ≡ true) where
    pub bad_count : tasks_fit n ≡ false → checked_tasks m n ts ≡ Refused (TasksGiven n)
    unfolding checked_tasks
    bad_count h = rw (cores, h)

    module _ (tasks : tasks_fit n ≡ true) where
      pub bad_values : (i : ℕ) → i < n → ((k : ℕ) → k < i → values_fit (ts k) ≡ true) → values_fit (ts i) ≡ false → checked_tasks m n ts ≡ Refused (ValuesOf (task_no i))
      unfolding checked_tasks
      bad_values i l h e = rw (cores, tasks, any_make n (λ k. not (values_fit (ts k))) i l (rw e), first_is n (λ k. not (values_fit (ts k))) i l (rw e) (λ j b. rw (h j b)))

      pub all_good : ((k : ℕ) → k < n → values_fit (ts k) ≡ true) → checked_tasks m n ts ≡ Accepted
      unfolding checked_tasks
      all_good h = rw (cores, tasks, any_none n (λ k. not (values_fit (ts k))) (λ j b. rw (h j b)))

-- what an accepted table is
pub record GoodTable (m n : ℕ) (ts : ℕ → Task) : Type 0 where
  pub cores : (1 ≤ m) × (m ≤ 16)
  pub tasks : (1 ≤ n) × (n ≤ 64)
  pub values : (i : ℕ) → i < n → Ranges (ts i)

pub accepted_good : (m n : ℕ) (ts : ℕ → Task) → checked_tasks m n ts ≡ Accepted → GoodTable m n ts
unfolding checked_tasks
accepted_good m n ts h = go _ _ _ refl refl refl
  where
    bad : ℕ → Bool
    bad i = not (values_fit (ts i))

    go : (a b c : Bool) → cores_fit m ≡ a → tasks_fit n ≡ b → any n bad ≡ c → GoodTable m n ts
    go false b c p q r = accepted_not (sym (bad_cores m n ts p) ∙ h)
    go true false c p q r = accepted_not (sym (bad_count m n ts p q) ∙ h)
    go true true true p q r =
        let f : (first n bad < n) × (bad (first n bad) ≡ true) = first_holds n bad r in
        accepted_not (sym (bad_values m n ts p q (first n bad) f.0 (λ k l. passes k (omega (arith, f.0)) (before k l)) (not-true _ f.1)) ∙ h)
      where
        before : (k : ℕ) → k < first n bad → bad k ≡ false
        before k l = first_before n bad k l

        passes : (k : ℕ) → k < n → bad k ≡ false → values_fit (ts k) ≡ true
        passes k l e = not-false _ e
    go true true false p q r = record {
      cores = counts_say m 16 p;
      tasks = counts_say n 64 q;
      values = λ i l. values_say (ts i) (not-false _ (any_each n bad r i l));
    }

-- the check of a table refuses with 4, 5 or 6
pub table_number : (m n : ℕ) (ts : ℕ → Task) (r : Refusal) → checked_tasks m n ts ≡ Refused r → number r ≤ 6
unfolding checked_tasks
table_number m n ts r h = go _ _ _ refl refl refl
  where
    go : (a b c : Bool) → cores_fit m ≡ a → tasks_fit n ≡ b → any n (λ i. not (values_fit (ts i))) ≡ c → number r ≤ 6
    go false b c p q s = let e : CoresGiven m ≡ r = refused_is (rw p at h) in omega (arith, ap number e)
    go true false c p q s = let e : TasksGiven n ≡ r = refused_is (rw (p, q) at h) in omega (arith, ap number e)
    go true true true p q s = let e : ValuesOf (task_no (first n (λ i. not (values_fit (ts i))))) ≡ r = refused_is (rw (p, q, s) at h) in omega (arith, ap number e)
    go true true false p q s = accepted_not (sym (rw (p, q, s) at h))

-- and such a table is accepted
pub values_fit_lem : (t : Task) → Ranges t → values_fit t ≡ true
values_fit_lem t r = sym (values_last t r.some r.short r.inside) ∙ le-leb _ _ r.most

pub counts_fit : (x most : ℕ) → (1 ≤ x) × (x ≤ most) → leb 1 x && leb x most ≡ true
counts_fit x most h = both_make (le-leb 1 x h.0) (le-leb x most h.1)

pub good_accepted : (m n : ℕ) (ts : ℕ → Task) → GoodTable m n ts → checked_tasks m n ts ≡ Accepted
good_accepted m n ts g = all_good m n ts (counts_fit m 16 g.cores) (counts_fit n 64 g.tasks) (λ i l. values_fit_lem (ts i) (g.values i l))
