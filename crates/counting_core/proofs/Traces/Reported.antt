-- What the log of a trace reports of the handles and of what is in flight, and how that changes by one step.
use Rattle.counting_core.proofs.Names.{◌≡◌, ℕ, ◌+◌, Bool, true, false, not, ◌&&◌, ◌||◌, nat_eq, List, [], ◌∷◌}
use Rattle.counting_core.proofs.Names.{◌++◌, length, length-append, length-set, append-nil, get_or, if◌then◌else◌, refl}
use Rattle.counting_core.proofs.Names.{sym, ◌∙◌, ap, ap₂, subst, arith, true≢false, eqb-true, ◌⊎◌, inl, inr, and_parts}
use Rattle.counting_core.proofs.Names.{common_steps, count_by, born, lt_irrefl, Standing, lives, dropping}
use Rattle.counting_core.proofs.Names.{has_ended, is_counted, Tally, first, standing_of, Lives, has_exactly, one_more}
use Rattle.counting_core.proofs.Names.{goes_to, after_read, after_step, tally_of, MayDo, IsRun, run-more, tally-append}
use Rattle.counting_core.proofs.Names.{atomic, Entry, made, WordStep, raises_from, Activity, Idle, Cloning, Dropping}
use Rattle.counting_core.proofs.Names.{HandleState, State, handle_in, seen_in, put, has_alone, may_use, without}
use Rattle.counting_core.proofs.Names.{is_dropping, Trace, limit_of, Model, IsLegal, state, model, log_of}
use Rattle.counting_core.proofs.Steps.Edits.{get_or-set, get_or-push}
use Rattle.counting_core.proofs.Traces.Places.{put-all}
use Rattle.counting_core.proofs.Traces.HandleLists.{has, nat_eq-same, has-push, has-without}
use Rattle.counting_core.proofs.Traces.InFlight.{all_fit, dropped-alone}
use Rattle.counting_core.proofs.Traces.LiveCounts.{live-listed}
use Rattle.counting_core.proofs.Traces.LiveHandles.{counted, live-in}
use Rattle.counting_core.proofs.Traces.Flights.{Flights, finds, stands, goes-on}

alone-user : (k : HandleState) (q o : ℕ) → has_alone k q ≡ true → may_use k o ≡ true → nat_eq q o ≡ true
alone-user k q o own uses = grind (arith, common_steps)

alone-alone : (k : HandleState) (q o : ℕ) → has_alone k q ≡ true → has_alone k o ≡ true → nat_eq q o ≡ true
alone-alone k q o own other = grind arith

-- an owner who may use a handle, or has it alone
abbrev pub Has : HandleState → ℕ → Type 0
Has k o = (may_use k o ≡ true) ⊎ (has_alone k o ≡ true)

has-lives : (k : HandleState) (o : ℕ) → Has k o → k.lives ≡ true
has-lives k o (inl uses) = (and_parts _ _ uses).0
has-lives k o (inr own) = (and_parts _ _ (and_parts _ _ own).0).0

has-is : (k : HandleState) (q o : ℕ) → has_alone k q ≡ true → Has k o → nat_eq q o ≡ true
has-is k q o own (inl uses) = alone-user k q o own uses
has-is k q o own (inr other) = alone-alone k q o own other

module _ {V : Type 0} where
  -- The tally agrees with the model on the handles, and with the owners on what is in flight.
  pub record Agrees (doing : ℕ → Activity) (m : Model V) (p : Tally) : Type 0 where
    pub births : m.births ≡ length p.handles
    pub mark : m.mark ≡ p.mark
    pub live : (h : ℕ) → has h m.live ≡ is_counted (standing_of p h)
    pub flights : Flights (standing_of p) p.found doing

  pub record Reported (limit : ℕ) (u : State) (m : Model V) (log : List Entry) : Type 0 where
    pub runs : IsRun limit log
    pub agrees : Agrees u.activity m (tally_of log)

  module _ (t : Trace V) (legal : IsLegal t) (known : Reported (limit_of t) (state t) (model t) (log_of t)) where
    abbrev u : State
    u = state t

    abbrev now : Model V
    now = model t

    abbrev p : Tally
    p = tally_of (log_of t)

    a : Agrees u.activity now p
    a = known.agrees

    -- the handles that live are those that are counted
    pub same-lives : (h : ℕ) → (u.handle h).lives ≡ is_counted (standing_of p h)
    same-lives h = sym (live-in u.handle now (counted t legal) h) ∙ a.live h

    -- so as many live
    pub same-count : length now.live ≡ count_by is_counted p.handles
    same-count = live-listed t legal is_counted has_ended p.handles a.births same-lives

    -- a handle lives in the tally if an owner has it who does not drop it
    pub used-lives : (o h : ℕ) → is_dropping (u.activity o) ≡ false → Has (u.handle h) o → Lives p h
    used-lives o h idle own = at (standing_of p h) refl where
      at : (x : Standing) → standing_of p h ≡ x → standing_of p h ≡ lives
      at lives e = e
      at has_ended e = absurd (true≢false (sym (has-lives (u.handle h) o own) ∙ same-lives h ∙ ap is_counted e))
      at dropping e =
          let d : (q : ℕ) × (u.activity q ≡ Dropping h) = a.flights.dropper h e in
          let is : d.0 ≡ o = eqb-true d.0 o (has-is (u.handle h) d.0 o
          (dropped-alone u (all_fit t legal) d.0 h d.1) own) in
          absurd (true≢false (sym (ap is_dropping (ap u.activity (sym is) ∙ d.1)) ∙ idle))

    -- no other owner drops the same handle
    pub one-drop : (o h : ℕ) → u.activity o ≡ Dropping h → (q : ℕ) → u.activity q ≡ Dropping h → nat_eq o q ≡ true
    one-drop o h e q i = alone-alone (u.handle h) o q (dropped-alone u (all_fit t legal) o h e)
        (dropped-alone u (all_fit t legal) q h i)

    -- one more step in the log
    pub adds : (h : ℕ) (w : WordStep) (q : Tally) (n : State) (m : Model V) → MayDo (limit_of t) p h (atomic w)
        → after_step p h w ≡ q → Agrees n.activity m q → Reported (limit_of t) n m (log_of t ++ made h w ∷ [])
    adds h w q n m may is agrees = record {
      runs = run-more (limit_of t) first (log_of t) (made h w) known.runs may;
      agrees = subst (Agrees n.activity m) (sym (tally-append first (log_of t) (made h w ∷ []) ∙ is)) agrees;
    }

    -- or none
    pub internal : (n : State) (m : Model V) → Agrees n.activity m p → Reported (limit_of t) n m (log_of t ++ [])
    internal n m agrees = record {
      runs = subst (IsRun (limit_of t)) (sym (append-nil (log_of t))) known.runs;
      agrees = subst (λ (l : List Entry). Agrees n.activity m (tally_of l)) (sym (append-nil (log_of t))) agrees;
    }

    -- no handle is born or ends
    pub stays : (m : Model V) (q : Tally) (doing : ℕ → Activity) → m.births ≡ now.births → m.mark ≡ q.mark
        → m.live ≡ now.live → q.handles ≡ p.handles → Flights (standing_of q) q.found doing → Agrees doing m q
    stays m q doing births mark live same flights = record {
      births = births ∙ a.births ∙ ap (λ (hs : List Standing). length hs) (sym same);
      mark = mark;
      live = λ h. ap (has h) live ∙ a.live h
          ∙ ap (λ (hs : List Standing). is_counted (get_or hs h has_ended)) (sym same);
      flights = flights;
    }

    -- a birth
    pub bears : (m : Model V) (doing : ℕ → Activity) → m.births ≡ now.births + 1 → m.mark ≡ now.mark
        → m.live ≡ now.live ++ now.births ∷ [] → Flights (standing_of p) p.found doing → Agrees doing m (one_more p)
    bears m doing births mark live flights = record {
      births = births ∙ ap (λ n. n + 1) a.births ∙ sym (length-append p.handles (lives ∷ []));
      mark = mark ∙ a.mark;
      live = λ h. ap (has h) live ∙ has-push h now.births now.live
          ∙ ap (λ n. nat_eq n h || has h now.live) a.births ∙ each h
          ∙ sym (ap (λ (f : ℕ → Standing). is_counted (f h)) (get_or-push p.handles has_ended lives));
      flights = subst (λ (f : ℕ → Standing). Flights f p.found doing) (sym (get_or-push p.handles has_ended lives))
          (stands (standing_of p) p.found doing flights (length p.handles) lives unborn (λ e. absurd (cc)));
    } where
      each : (h : ℕ) → (nat_eq (length p.handles) h || has h now.live)
          ≡ is_counted (put (standing_of p) (length p.handles) lives h)
      each = put-all (standing_of p) (length p.handles) lives
          (λ h x. (nat_eq (length p.handles) h || has h now.live) ≡ is_counted x)
          (ap (λ b. b || has (length p.handles) now.live) (nat_eq-same (length p.handles)))
          (λ h other. ap (λ b. b || has h now.live) other ∙ a.live h)

      unborn : standing_of p (length p.handles) ≡ dropping → ⊥
      unborn e = lt_irrefl (length p.handles) (born p.handles (length p.handles) dropping refl e)

    -- a handle gets another standing
    pub gets-standing : (h : ℕ) (x : Standing) (m : Model V) (doing : ℕ → Activity)
        → is_counted (standing_of p h) ≡ true → m.births ≡ now.births → m.mark ≡ now.mark
        → ((k : ℕ) → has k m.live ≡ is_counted (put (standing_of p) h x k))
        → Flights (put (standing_of p) h x) p.found doing → Agrees doing m (goes_to p h x)
    gets-standing h x m doing there births mark live flights = record {
      births = births ∙ a.births ∙ sym (length-set p.handles h x);
      mark = mark ∙ a.mark;
      live = λ k. live k ∙ sym (ap (λ (f : ℕ → Standing). is_counted (f k)) is);
      flights = subst (λ (f : ℕ → Standing). Flights f p.found doing) (sym is) flights;
    } where
      is : standing_of (goes_to p h x) ≡ put (standing_of p) h x
      is = get_or-set p.handles has_ended h x (born p.handles h (standing_of p h) there refl)

    -- the handles that live without one that ended
    pub without-it : (h k : ℕ) → has k (without h now.live) ≡ is_counted (put (standing_of p) h has_ended k)
    without-it h k = has-without k h now.live ∙ put-all (standing_of p) h has_ended
        (λ k x. (not (nat_eq h k) && has k now.live) ≡ is_counted x)
        (ap (λ b. not b && has h now.live) (nat_eq-same h))
        (λ k other. ap (λ b. not b && has k now.live) other ∙ a.live k) k

    -- the tally after a read that bears no handle
    abbrev pub read_at : ℕ → Tally
    read_at h = record p { found = (h, count_by is_counted p.handles) ∷ p.found }

    -- a read, by the mark that it finds
    pub read-by : (h : ℕ) (b : Bool) → now.mark ≡ b → after_read p h ≡ (if b then one_more p else read_at h)
    read-by h b e = ap (λ (z : Bool). if z then one_more p else read_at h) (sym a.mark ∙ e)

    exactly-by : (saw : ℕ) (b : Bool) → now.mark ≡ b
        → has_exactly saw p ≡ (if b then false else nat_eq (length now.live) saw)
    exactly-by saw b e = ap₂ (λ (z : Bool) (n : ℕ). if z then false else nat_eq n saw) (sym a.mark ∙ e) (sym same-count)

    -- a raise that finds another count without a mark is one more read, and any other bears a handle
    pub raise-lost : (h saw : ℕ) → now.mark ≡ false → nat_eq (length now.live) saw ≡ false
        → after_step p h (raises_from saw) ≡ read_at h
    raise-lost h saw mark lost =
        ap (λ (z : Bool). if z then one_more p else after_read p h) (exactly-by saw false mark ∙ lost)
        ∙ read-by h false mark

    pub raise-born : (h saw : ℕ) → (now.mark || nat_eq (length now.live) saw) ≡ true
        → after_step p h (raises_from saw) ≡ one_more p
    raise-born h saw won = at now.mark refl where
      at : (b : Bool) → now.mark ≡ b → after_step p h (raises_from saw) ≡ one_more p
      at true e = ap (λ (z : Bool). if z then one_more p else after_read p h) (exactly-by saw true e)
          ∙ read-by h true e
      at false e = ap (λ (z : Bool). if z then one_more p else after_read p h) (exactly-by saw false e
          ∙ sym (ap (λ (z : Bool). z || nat_eq (length now.live) saw) e) ∙ won)

    -- an owner that dropped nothing is idle now
    pub idles : (o : ℕ) → is_dropping (u.activity o) ≡ false
        → Flights (standing_of p) p.found (put u.activity o Idle)
    idles o was = goes-on (standing_of p) p.found u.activity a.flights o Idle was refl (λ h n e. absurd (cc))

    -- or it has just read for a clone
    pub reads-on : (o h : ℕ) → is_dropping (u.activity o) ≡ false
        → Flights (standing_of p) (read_at h).found (put u.activity o (Cloning h (length now.live)))
    reads-on o h was = goes-on (standing_of p) (read_at h).found u.activity
        (finds (standing_of p) p.found u.activity a.flights (h, count_by is_counted p.handles)) o
        (Cloning h (length now.live)) was refl (λ k n e. (
          0,
          omega arith,
          ap (λ (z : ℕ). (h, z)) (sym same-count) ∙ ap (λ (c : Activity). (handle_in c, seen_in c)) e,
        ))
