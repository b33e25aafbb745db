-- The fault of a field is the number of the rule that it breaks.
use mathlib.Core.Path.{◌≡◌, refl, ◌∙◌}
use mathlib.Core.Bool.{Bool, true, false, ◌&&◌, cond}
use mathlib.Core.List.{List}
use mathlib.Core.Logic.{inl, inr}
use Prim.Native.Nat.{ℕ, zero, suc, ◌+◌, ◌≤◌, ◌<◌}
use native.Mathlib.Decide.{ℕ_discrete, dec_lt}
use native.Mathlib.Omega.{arith}
use lib.Dec.{leb, eqb}
use lib.ListN.{length, get_or}
use borrow.Author.Tests.{eq-eqb, ne_eqb, lt-ltb, le-ltb, le-leb, lt-leb}
use Rattle.tasks.specs.Tables.{cores_fit, values_fit}
use Rattle.files.specs.Grammar.{number2, length_for, Before, tag_of, task_of_field, in_place, values_fault, fault}
use Rattle.files.specs.Rules.{TagGood, HeaderGood, BodyGood, EndsInside, BadTag, TaskPast, BadLength, BadCores, BadValues}

-- the rule of each number
unfoldable pub Breaks : ℕ → Bool → Before → List ℕ → Type 0
Breaks zero o b f = BodyGood o b f
Breaks (suc zero) o b f = EndsInside o b f
Breaks (suc (suc zero)) o b f = BadTag o b f
Breaks (suc (suc (suc zero))) o b f = BadLength o b f
Breaks (suc (suc (suc (suc zero)))) o b f = BadCores o b f
Breaks (suc (suc (suc (suc (suc zero))))) o b f = BadValues o b f
Breaks (suc (suc (suc (suc (suc (suc n)))))) o b f = TaskPast o b f

-- no 65th task
free : (f : List ℕ) (n : ℕ) → (tag_of f ≡ 2 → n < 64) → eqb (tag_of f) 2 && leb 64 n ≡ false
free f n h = go (ℕ_discrete (tag_of f) 2)
  where
    go : Dec (tag_of f ≡ 2) → eqb (tag_of f) 2 && leb 64 n ≡ false
    go (yes t) = rw (eq-eqb (tag_of f) 2 t) (lt-leb 64 n (h t))
    go (no t) = rw (ne_eqb (tag_of f) 2 t)

module _ (o : Bool) (b : Before) (f : List ℕ) where
  -- 1: a file that ends inside the field
  pub inside_fault : EndsInside o b f → fault o b f ≡ 1
  unfolding fault
  inside_fault (inl l) = rw (lt-ltb (length f) 3 l)
  inside_fault (inr h) = rw (le-ltb (length f) 3 h.0.tag.header, h.0.tag.order, free f b.tasks h.0.room, eq-eqb (number2 f 1) (length_for (tag_of f)) h.0.size, lt-ltb (length f) (3 + length_for (tag_of f)) h.1)

  -- 2: a bad tag
  pub tag_fault : BadTag o b f → fault o b f ≡ 2
  unfolding fault
  tag_fault h = rw (le-ltb (length f) 3 h.0, h.1)

  -- 6: a 65th task
  pub past_fault : TaskPast o b f → fault o b f ≡ 6
  unfolding fault
  past_fault h = rw (le-ltb (length f) 3 h.0.header, h.0.order, eq-eqb (tag_of f) 2 h.1.0, le-leb 64 b.tasks h.1.1)

  -- 3: a bad length
  pub length_fault : BadLength o b f → fault o b f ≡ 3
  unfolding fault
  length_fault h = rw (le-ltb (length f) 3 h.0.header, h.0.order, free f b.tasks h.1.0, ne_eqb (number2 f 1) (length_for (tag_of f)) h.1.1)

  -- a whole field leaves the values
  pub body_fault : BodyGood o b f → fault o b f ≡ values_fault f
  unfolding fault
  body_fault h = rw (le-ltb (length f) 3 h.header.tag.header, h.header.tag.order, free f b.tasks h.header.room, eq-eqb (number2 f 1) (length_for (tag_of f)) h.header.size, le-ltb (length f) (3 + length_for (tag_of f)) h.whole)

  -- 4: a bad core count
  pub cores_fault : BadCores o b f → fault o b f ≡ 4
  unfolding values_fault
  cores_fault h = body_fault h.0 ∙ rw (eq-eqb (tag_of f) 1 h.1.0, h.1.1)

  -- 5: bad values
  pub values_fault_lem : BadValues o b f → fault o b f ≡ 5
  unfolding values_fault
  values_fault_lem h = body_fault h.0 ∙ rw (ne_eqb (tag_of f) 1 (λ q. omega arith), eq-eqb (tag_of f) 2 h.1.0, h.1.1)

  -- the values of a whole field
  values_told : BodyGood o b f → Breaks (values_fault f) o b f
  unfolding values_fault Breaks
  values_told g = go (ℕ_discrete (tag_of f) 1) (ℕ_discrete (tag_of f) 2)
    where
      cores : tag_of f ≡ 1 → (c : Bool) → cores_fit (get_or f 3 0) ≡ c → Breaks (cond c 0 4) o b f
      cores t true q = g
      cores t false q = (g, (t, q))

      task : tag_of f ≡ 2 → (c : Bool) → values_fit (task_of_field f) ≡ c → Breaks (cond c 0 5) o b f
      task t true q = g
      task t false q = (g, (t, q))

      go : Dec (tag_of f ≡ 1) → Dec (tag_of f ≡ 2) → Breaks (cond (eqb (tag_of f) 1) (cond (cores_fit (get_or f 3 0)) 0 4) (cond (eqb (tag_of f) 2) (cond (values_fit (task_of_field f)) 0 5) 0)) o b f
      go (yes t) d = rw (eq-eqb (tag_of f) 1 t) (cores t _ refl)
      go (no a) (yes t) = rw (ne_eqb (tag_of f) 1 a, eq-eqb (tag_of f) 2 t) (task t _ refl)
      go (no a) (no c) = rw (ne_eqb (tag_of f) 1 a, ne_eqb (tag_of f) 2 c) g

  -- every field breaks the rule of its fault
  pub fault_told : Breaks (fault o b f) o b f
  unfolding Breaks
  fault_told = header (dec_lt (length f) 3)
    where
      body : HeaderGood o b f → Dec (length f < 3 + length_for (tag_of f)) → Breaks (fault o b f) o b f
      body h (yes l) = rw (inside_fault (inr (h, l))) (inr (h, l))
      body h (no l) = let g : BodyGood o b f = record { header = h; whole = omega arith } in rw (body_fault g) (values_told g)

      size : TagGood o b f → (tag_of f ≡ 2 → b.tasks < 64) → Dec (number2 f 1 ≡ length_for (tag_of f)) → Breaks (fault o b f) o b f
      size h r (yes e) = body (record { tag = h; room = r; size = e }) (dec_lt (length f) (3 + length_for (tag_of f)))
      size h r (no e) = rw (length_fault (h, (r, e))) (h, (r, e))

      task : TagGood o b f → Dec (tag_of f ≡ 2) → Dec (b.tasks < 64) → Breaks (fault o b f) o b f
      task h (yes t) (yes l) = size h (λ q. l) (ℕ_discrete (number2 f 1) (length_for (tag_of f)))
      task h (no t) d = size h (λ q. absurd (t q)) (ℕ_discrete (number2 f 1) (length_for (tag_of f)))
      task h (yes t) (no l) = let m : 64 ≤ b.tasks = omega arith in rw (past_fault (h, (t, m))) (h, (t, m))

      tagged : 3 ≤ length f → (c : Bool) → in_place o b f ≡ c → Breaks (fault o b f) o b f
      tagged l true q = task (record { header = l; order = q }) (ℕ_discrete (tag_of f) 2) (dec_lt b.tasks 64)
      tagged l false q = rw (tag_fault (l, q)) (l, q)

      header : Dec (length f < 3) → Breaks (fault o b f) o b f
      header (yes l) = rw (inside_fault (inl l)) (inl l)
      header (no l) = tagged (omega arith) _ refl
