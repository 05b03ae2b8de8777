-- What stays true of a life, event by event, and that it is fair.
use Rattle.std.proofs.Common.{◌≡◌, ℕ, ◌+◌, ◌-◌, ◌*◌, ◌/◌, ◌^◌, ◌<◌, ◌≤◌, min, max, List, [], ◌∷◌, Bool, true, false, cond, ◌&&◌, ◌||◌, ◌==◌, nat_le, nat_lt, Option, None, Some, refl, sym, ap, subst, leb-true, ltb-true, arith}
use Rattle.cartridge_clock.specs.declared.giving.TheConstants.{LAST_SECOND, MOST_SECONDS, YEAR}
use Rattle.cartridge_clock.specs.declared.until.Line.{Line}
use Rattle.cartridge_clock.specs.declared.giving.Clock.{Clock}
use Rattle.cartridge_clock.specs.declared.giving.Answer.{Answer}
use Rattle.cartridge_clock.specs.declared.giving.Answer.TheVariants.{Give, Leave}
use Rattle.cartridge_clock.specs.declared.lives.Held.{Held}
use Rattle.cartridge_clock.specs.declared.lives.Held.TheVariants.{Nothing, One, Both}
use Rattle.cartridge_clock.specs.declared.lives.Outcome.{Outcome}
use Rattle.cartridge_clock.specs.declared.lives.Outcome.TheVariants.{Done, Failed, Doubtful}
use Rattle.cartridge_clock.specs.declared.lives.Session.{Session}
use Rattle.cartridge_clock.specs.declared.lives.World.{World}
use Rattle.cartridge_clock.specs.declared.lives.Event.{Event}
use Rattle.cartridge_clock.specs.declared.lives.Event.TheVariants.{Opened, Passed, Played, Claimed, Gave, Saved, Noted, Cut}
use Rattle.cartridge_clock.specs.Lines.{until_by}
use Rattle.cartridge_clock.specs.Clocks.{second_of, found_until, until_from, start_from, opened, due_at, claiming, to_give, giving}
use Rattle.cartridge_clock.specs.Lives.{lines_of, left_by, told_claim, told_note, opens, plays, claims_line, claims, gives, saves, notes_line, notes, after, Given, among, can_give, more_given, given_after, seen_after, Life, then_after, lived}
use Rattle.cartridge_clock.specs.Laws.{reached, IsFair, begun, NoSecondTwice}
use Rattle.cartridge_clock.proofs.Spans.{InOrder, among_order, among_both, total_order, order_once}
use Rattle.cartridge_clock.proofs.Told.{one_until, both_until, both_known, both_claim}

-- ---- what stays true

abbrev pub IsThere : Held → Type 0
IsThere Nothing = ⊥
IsThere (One line) = Unit {0}
IsThere (Both line before) = Unit {0}

-- a claim that is written and not given
pub record Pending (file : Held) (clock : Clock) (count moment : ℕ) (line : Line) : Type 0 where
  pub before : Line
  pub file_is : file ≡ Both line before
  pub next : line.count ≤ count + 1
  pub ahead : clock.until ≤ line.until
  pub passed : line.until * 1000 ≤ clock.opened + (moment - clock.began)
  pub last : line.until ≤ LAST_SECOND

abbrev pub IsPending : (file : Held) (clock : Clock) (count moment : ℕ) → Option Line → Type 0
IsPending file clock count moment None = Unit {0}
IsPending file clock count moment (Some line) = Pending file clock count moment line

pub record Sound (start : ℕ) (file : Held) (saved moment : ℕ) (given : List Given) (seen : ℕ) (s : Session) : Type 0 where
  pub until : reached start given ≤ s.clock.until
  pub passed : s.clock.until * 1000 ≤ s.clock.opened + (moment - s.clock.began)
  pub last : s.clock.until ≤ LAST_SECOND
  pub written : reached start given ≤ s.clock.written.until
  pub written_passed : s.clock.written.until * 1000 ≤ s.clock.opened + (moment - s.clock.began)
  pub time : s.clock.opened + (moment - s.clock.began) ≤ seen
  pub few : saved ≤ s.count
  pub full : s.count ≤ 2 ^ 64 - 1
  pub pending : IsPending file s.clock s.count moment s.clock.claimed

abbrev pub IsSound : (start : ℕ) (file : Held) (saved moment : ℕ) (given : List Given) (seen : ℕ) → Option Session → Type 0
IsSound start file saved moment given seen None = reached start given ≤ until_by (lines_of file) saved
IsSound start file saved moment given seen (Some s) = Sound start file saved moment given seen s

-- what SAVE.time has
pub record Good (start : ℕ) (file : Held) (saved : ℕ) (given : List Given) (seen : ℕ) : Type 0 where
  pub there : IsThere file
  pub told : (n : ℕ) → saved ≤ n → reached start (among n given) ≤ until_by (lines_of file) n
  pub known : (n : ℕ) → until_by (lines_of file) n * 1000 ≤ seen

pub record Inv (start : ℕ) (file : Held) (saved moment : ℕ) (o : Option Session) (given : List Given) (seen : ℕ) : Type 0 where
  pub order : InOrder start given
  pub last : reached start given ≤ LAST_SECOND
  pub room : saved ≤ 2 ^ 64 - 1
  pub ticks : moment ≤ 2 ^ 64 - 1
  pub good : Good start file saved given seen
  pub sound : IsSound start file saved moment given seen o

abbrev pub Holds : (start : ℕ) → World → List Given → ℕ → Type 0
Holds start w given seen = Inv start w.file w.saved w.moment w.session given seen

abbrev pub world : Held → (saved moment : ℕ) → Option Session → World
world file saved moment o = record { file = file; saved = saved; moment = moment; session = o }

pending_later : (file : Held) (clock : Clock) (count more moment now : ℕ) (o : Option Line) → count ≤ more → moment ≤ now → IsPending file clock count moment o
    → IsPending file clock more now o
pending_later file clock count more moment now None h k p = tt
pending_later file clock count more moment now (Some line) h k p = record {
  before = p.before;
  file_is = p.file_is;
  ahead = p.ahead;
  last = p.last;
  next = omega (arith, p.next, h);
  passed = omega (arith, p.passed, k);
}

-- ---- what a write leaves

module _ (start saved : ℕ) (given : List Given) (seen : ℕ) (order : InOrder start given) where
  good_one : (line : Line) → reached start given ≤ line.until → line.until * 1000 ≤ seen → Good start (One line) saved given seen
  good_one line h k = record {
    there = tt;
    told = λ n _. omega (arith, one_until line n, (among_order start n given order).1, h);
    known = λ n. omega (arith, one_until line n, k);
  }

  good_both : (line before : Line) → reached start given ≤ line.until → line.until * 1000 ≤ seen → reached start given ≤ before.until → before.until * 1000 ≤ seen
      → Good start (Both line before) saved given seen
  good_both line before h k i j = record {
    there = tt;
    told = λ n _.
        let most = (among_order start n given order).1 in
        both_until line before n (reached start (among n given)) (omega (arith, most, h)) (omega (arith, most, i));
    known = λ n. both_known line before n seen k j;
  }

module _ (start saved : ℕ) (given : List Given) (seen : ℕ) where
  good_left : (how : Outcome) (old new : Held) → Good start old saved given seen → Good start new saved given seen → Good start (left_by how old new) saved given seen
  good_left Done old new g h = h
  good_left Doubtful old new g h = h
  good_left Failed old new g h = g

  good_later : (file : Held) (later : ℕ) → seen ≤ later → Good start file saved given seen → Good start file saved given later
  good_later file later h g = record { there = g.there; told = g.told; known = λ n. omega (arith, g.known n, h) }

-- ---- event by event

module _ (start : ℕ) (file : Held) (saved moment : ℕ) (given : List Given) (seen : ℕ) where
  -- more of the time is seen
  inv_later : (o : Option Session) (now later : ℕ) → seen + (now - moment) ≤ later → moment ≤ now → now ≤ 2 ^ 64 - 1 → Inv start file saved moment o given seen → Inv start file saved now o given later
  inv_later None now later h k t i = record { order = i.order; last = i.last; room = i.room; ticks = t; sound = i.sound; good = good_later start saved given seen file later (omega (arith, h)) i.good }
  inv_later (Some s) now later h k t i = record {
    order = i.order;
    last = i.last;
    room = i.room;
    ticks = t;
    good = good_later start saved given seen file later (omega (arith, h)) i.good;
    sound = record {
      until = i.sound.until;
      last = i.sound.last;
      written = i.sound.written;
      few = i.sound.few;
      full = i.sound.full;
      passed = omega (arith, i.sound.passed, k);
      written_passed = omega (arith, i.sound.written_passed, k);
      time = omega (arith, i.sound.time, h, k);
      pending = pending_later file s.clock s.count s.count moment now s.clock.claimed (omega arith) k i.sound.pending;
    };
  }

  inv_plays : (o : Option Session) (inputs : ℕ) → Inv start file saved moment o given seen → Holds start (plays (world file saved moment o) o inputs) given seen
  inv_plays None inputs i = i
  inv_plays (Some s) inputs i = record {
    order = i.order;
    last = i.last;
    room = i.room;
    ticks = i.ticks;
    good = i.good;
    sound = record {
      until = i.sound.until;
      passed = i.sound.passed;
      last = i.sound.last;
      written = i.sound.written;
      written_passed = i.sound.written_passed;
      time = i.sound.time;
      few = omega (arith, i.sound.few, i.room);
      full = omega arith;
      pending = pending_later file s.clock s.count (min (s.count + inputs) (2 ^ 64 - 1)) moment moment s.clock.claimed (omega (arith, i.sound.full)) (omega arith) i.sound.pending;
    };
  }

  inv_saves : (o : Option Session) (inputs : ℕ) → Inv start file saved moment o given seen → Holds start (saves (world file saved moment o) o inputs) given seen
  inv_saves None inputs i = i
  inv_saves (Some s) inputs i = record {
    order = i.order;
    last = i.last;
    room = omega (arith, i.sound.full);
    ticks = i.ticks;
    good = record { there = i.good.there; known = i.good.known; told = λ n h. i.good.told n (omega (arith, i.sound.few, h)) };
    sound = record {
      until = i.sound.until;
      passed = i.sound.passed;
      last = i.sound.last;
      written = i.sound.written;
      written_passed = i.sound.written_passed;
      time = i.sound.time;
      pending = i.sound.pending;
      full = i.sound.full;
      few = omega arith;
    };
  }

  inv_cut : (o : Option Session) → Inv start file saved moment o given seen → Inv start file saved moment None (among saved given) seen
  inv_cut o i =
      let cut = among_order start saved given i.order in
      record {
        order = cut.0;
        room = i.room;
        ticks = i.ticks;
        last = omega (arith, cut.1, i.last);
        good = record {
          there = i.good.there;
          known = i.good.known;
          told = λ n h.
              let front = (among_order start saved (among n given) (among_order start n given i.order).0).1 in
              let same : reached start (among n (among saved given)) ≡ reached start (among saved (among n given)) = ap (reached start) (among_both n saved given) in
              omega (arith, same, front, i.good.told n h);
        };
        sound = i.good.told saved (omega arith);
      }

  -- a claim that is made, or none
  sound_told : (how : Outcome) (s : Session) (line : Line) → Sound start file saved moment given seen (record s { clock = claiming s.clock })
      → Pending (Both line s.clock.written) s.clock s.count moment line
      → Sound start (left_by how file (Both line s.clock.written)) saved moment given seen (record s { clock = told_claim how (claiming s.clock) line })
  sound_told Done s line h p = record {
    until = h.until;
    passed = h.passed;
    last = h.last;
    written = h.written;
    written_passed = h.written_passed;
    time = h.time;
    few = h.few;
    full = h.full;
    pending = record { before = p.before; file_is = p.file_is; next = p.next; ahead = p.ahead; passed = p.passed; last = p.last };
  }
  sound_told Doubtful s line h p = record {
    until = h.until;
    passed = h.passed;
    last = h.last;
    written = h.written;
    written_passed = h.written_passed;
    time = h.time;
    few = h.few;
    full = h.full;
    pending = tt;
  }
  sound_told Failed s line h p = record {
    until = h.until;
    passed = h.passed;
    last = h.last;
    written = h.written;
    written_passed = h.written_passed;
    time = h.time;
    few = h.few;
    full = h.full;
    pending = tt;
  }

  unclaimed : (s : Session) → Sound start file saved moment given seen s → Sound start file saved moment given seen (record s { clock = claiming s.clock })
  unclaimed s h = record {
    until = h.until;
    passed = h.passed;
    last = h.last;
    written = h.written;
    written_passed = h.written_passed;
    time = h.time;
    few = h.few;
    full = h.full;
    pending = tt;
  }

-- ---- a claim

pub due_passed : (opened elapsed until seen : ℕ) → until * 1000 ≤ seen → opened + elapsed ≤ seen
    → (until + min (min ((opened + elapsed) / 1000) LAST_SECOND - until) MOST_SECONDS) * 1000 ≤ seen
due_passed opened elapsed until seen h k = omega arith

pub due_last : (second until : ℕ) → until ≤ LAST_SECOND → until + min (min second LAST_SECOND - until) MOST_SECONDS ≤ LAST_SECOND
due_last second until h = omega arith

module _ (start : ℕ) (file : Held) (saved moment : ℕ) (given : List Given) (seen : ℕ) where
  inv_claim : (s : Session) (how : Outcome) (b : Bool) → Inv start file saved moment (Some s) given seen
      → Holds start (claims_line (world file saved moment (Some s)) s (cond b None (Some (record { count = s.count + 1; until = s.clock.until + due_at s.clock moment }))) how) given seen
  inv_claim s how true i = record { order = i.order; last = i.last; room = i.room; ticks = i.ticks; good = i.good; sound = unclaimed start file saved moment given seen s i.sound }
  inv_claim s how false i =
      let line : Line = record { count = s.count + 1; until = s.clock.until + due_at s.clock moment } in
      let elapsed : ℕ = moment - s.clock.began in
      let passed : line.until * 1000 ≤ s.clock.opened + elapsed = due_passed s.clock.opened elapsed s.clock.until (s.clock.opened + elapsed) i.sound.passed (omega arith) in
      let reached : reached start given ≤ line.until = omega (arith, i.sound.until) in
      record {
        order = i.order;
        last = i.last;
        room = i.room;
        ticks = i.ticks;
        good = good_left start saved given seen how file (Both line s.clock.written) i.good
            (good_both start saved given seen i.order line s.clock.written reached (omega (arith, passed, i.sound.time)) i.sound.written (omega (arith, i.sound.written_passed, i.sound.time)));
        sound = sound_told start file saved moment given seen how s line (unclaimed start file saved moment given seen s i.sound) (record {
          before = s.clock.written;
          file_is = refl;
          next = omega arith;
          ahead = omega arith;
          passed = passed;
          last = due_last ((s.clock.opened + (moment - s.clock.began)) / 1000) s.clock.until i.sound.last;
        });
      }

  inv_claims : (o : Option Session) (how : Outcome) → Inv start file saved moment o given seen → Holds start (claims (world file saved moment o) o how) given seen
  inv_claims None how i = i
  inv_claims (Some s) how i = inv_claim s how (due_at s.clock moment == 0 || (nat_le (2 ^ 64 - 1) s.count || nat_lt LAST_SECOND s.clock.until)) i

  -- ---- a note

  sound_noted : (how : Outcome) (s : Session) → Sound start file saved moment given seen s
      → Sound start (left_by how file (One (record { count = saved; until = s.clock.until }))) saved moment given seen (record s { clock = told_note how (claiming s.clock) (record { count = saved; until = s.clock.until }) })
  sound_noted Done s h = record {
    until = h.until;
    passed = h.passed;
    last = h.last;
    written = h.until;
    written_passed = h.passed;
    time = h.time;
    few = h.few;
    full = h.full;
    pending = tt;
  }
  sound_noted Doubtful s h = record {
    until = h.until;
    passed = h.passed;
    last = h.last;
    written = h.written;
    written_passed = h.written_passed;
    time = h.time;
    few = h.few;
    full = h.full;
    pending = tt;
  }
  sound_noted Failed s h = record {
    until = h.until;
    passed = h.passed;
    last = h.last;
    written = h.written;
    written_passed = h.written_passed;
    time = h.time;
    few = h.few;
    full = h.full;
    pending = tt;
  }

  inv_note : (s : Session) (how : Outcome) (b : Bool) → Inv start file saved moment (Some s) given seen
      → Holds start (notes_line (world file saved moment (Some s)) s (cond b None (Some (record { count = saved; until = s.clock.until }))) how) given seen
  inv_note s how true i = record { order = i.order; last = i.last; room = i.room; ticks = i.ticks; good = i.good; sound = unclaimed start file saved moment given seen s i.sound }
  inv_note s how false i =
      let line : Line = record { count = saved; until = s.clock.until } in
      record {
        order = i.order;
        last = i.last;
        room = i.room;
        ticks = i.ticks;
        good = good_left start saved given seen how file (One line) i.good (good_one start saved given seen i.order line i.sound.until (omega (arith, i.sound.passed, i.sound.time)));
        sound = sound_noted how s i.sound;
      }

  inv_notes : (o : Option Session) (how : Outcome) → Inv start file saved moment o given seen → Holds start (notes (world file saved moment o) o how) given seen
  inv_notes None how i = i
  inv_notes (Some s) how i = inv_note s how (nat_le saved s.clock.written.count || nat_lt s.clock.until s.clock.written.until) i

-- ---- a game is opened

found_is : (file : Held) (saved now : ℕ) → IsThere file → found_until (lines_of file) saved now ≡ min (until_by (lines_of file) saved) LAST_SECOND
found_is Nothing saved now h = absurd h
found_is (One line) saved now h = refl
found_is (Both line before) saved now h = refl

until_least : (found now : ℕ) (answer : Option Answer) → found ≤ until_from found now answer
until_least found now None = omega arith
until_least found now (Some Give) = omega arith
until_least found now (Some Leave) = omega arith

until_most : (found now : ℕ) (answer : Option Answer) → until_from found now answer ≤ max found now
until_most found now None = omega arith
until_most found now (Some Give) = omega arith
until_most found now (Some Leave) = omega arith

start_year : (found date : ℕ) (b : Bool) → cond b (found * 1000) (max date (found * 1000)) ≤ max date (found * 1000)
start_year found date true = omega arith
start_year found date false = omega arith

year_begins : (found date : ℕ) (b : Bool) → found * 1000 ≤ cond b (found * 1000) (max date (found * 1000))
year_begins found date true = omega arith
year_begins found date false = omega arith

start_most : (found now date : ℕ) (answer : Option Answer) → start_from found now date answer ≤ max date (found * 1000)
start_most found now date None = start_year found date (nat_lt YEAR (now - found))
start_most found now date (Some answer) = omega arith

-- no session begins before what it counts as given
begins : (found now date : ℕ) (answer : Option Answer) → now * 1000 ≤ date → until_from found now answer * 1000 ≤ start_from found now date answer
begins found now date None h = year_begins found date (nat_lt YEAR (now - found))
begins found now date (Some Give) h = omega arith
begins found now date (Some Leave) h = omega arith

sound_left : (start : ℕ) (old new : Held) (saved moment : ℕ) (given : List Given) (seen : ℕ) (how : Outcome) (s : Session) → s.clock.claimed ≡ None
    → Sound start new saved moment given seen s → Sound start (left_by how old new) saved moment given seen s
sound_left start old new saved moment given seen how s none h = record {
  until = h.until;
  passed = h.passed;
  last = h.last;
  written = h.written;
  written_passed = h.written_passed;
  time = h.time;
  few = h.few;
  full = h.full;
  pending = subst (λ (o : Option Line). IsPending (left_by how old new) s.clock s.count moment o) (sym none) tt;
}

module _ (start : ℕ) (file : Held) (saved moment : ℕ) (given : List Given) (seen : ℕ) where
  inv_opens : (o : Option Session) (date : ℕ) (answer : Option Answer) (how : Outcome) → Inv start file saved moment o given seen
      → Holds start (opens (world file saved moment o) o date answer how) given (max seen date)
  inv_opens (Some s) date answer how i = inv_later start file saved moment given seen (Some s) moment (max seen date) (omega arith) (omega arith) i.ticks i
  inv_opens None date answer how i =
      let now : ℕ = second_of date in
      let found : ℕ = found_until (lines_of file) saved now in
      let until : ℕ = until_from found now answer in
      let found_told : found ≡ min (until_by (lines_of file) saved) LAST_SECOND = found_is file saved now i.good.there in
      let known : until_by (lines_of file) saved * 1000 ≤ seen = i.good.known saved in
      let reached : reached start given ≤ until = omega (arith, found_told, i.sound, i.last, until_least found now answer) in
      let passed : until * 1000 ≤ max seen date = omega (arith, found_told, known, until_most found now answer) in
      let begun : until * 1000 ≤ start_from found now date answer = begins found now date answer (omega arith) in
      let last : until ≤ LAST_SECOND = omega (arith, found_told, until_most found now answer) in
      let clock : Clock = opened (lines_of file) saved date moment answer in
      let good : Good start (One clock.written) saved given (max seen date) = good_one start saved given (max seen date) i.order clock.written reached passed in
      record {
        order = i.order;
        last = i.last;
        room = i.room;
        ticks = i.ticks;
        good = good_left start saved given (max seen date) how file (One clock.written) (good_later start saved given seen file (max seen date) (omega arith) i.good) good;
        sound = sound_left start file (One clock.written) saved moment given (max seen date) how (record { clock = clock; count = saved }) refl (record {
          until = reached;
          passed = omega (arith, begun);
          last = last;
          written = reached;
          written_passed = omega (arith, begun);
          full = i.room;
          time = omega (arith, found_told, known, start_most found now date answer);
          few = omega arith;
          pending = tt;
        });
      }

-- ---- an input gives what was claimed

module _ (start saved : ℕ) (given : List Given) where
  told_given : (g : Given) (line before : Line) (n : ℕ) (b : Bool) → nat_le g.at n ≡ b → line.count ≤ g.at → g.until ≤ line.until
      → reached start (among n given) ≤ until_by (line ∷ before ∷ []) n → reached start (cond b (g ∷ among n given) (among n given)) ≤ until_by (line ∷ before ∷ []) n
  told_given g line before n true e h k r =
      let fits : g.at ≤ n = leb-true g.at n e in
      omega (arith, both_claim line before n (omega (arith, h, fits)), k)
  told_given g line before n false e h k r = r

-- the session without its claim
abbrev session : (until opened began : ℕ) (written : Line) (claimed : Option Line) (count : ℕ) → Session
session until opened began written claimed count =
    record { clock = record { until = until; opened = opened; began = began; written = written; claimed = claimed }; count = count }

module _ (start : ℕ) (file : Held) (saved moment : ℕ) (given : List Given) (seen : ℕ) (until opened began : ℕ) (written : Line) (count : ℕ) where
  inv_given : (claimed : Option Line) → count < 2 ^ 64 - 1 → 0 < to_give (session until opened began written claimed count).clock
      → Inv start file saved moment (Some (session until opened began written claimed count)) given seen
      → let s = session until opened began written claimed count in
      Inv start file saved moment (Some (record { clock = giving s.clock; count = count + 1 })) (record { at = count + 1; from = until; until = until + to_give s.clock } ∷ given) seen
  inv_given None few some i = absurd (omega (arith, some))
  inv_given (Some line) few some i =
      let p = i.sound.pending in
      let seconds : ℕ = min (line.until - until) MOST_SECONDS in
      let g : Given = record { at = count + 1; from = until; until = until + seconds } in
      let within : until + seconds ≤ line.until = omega (arith, p.ahead) in
      record {
        order = (i.sound.until, omega arith, i.order);
        last = omega (arith, within, p.last);
        room = i.room;
        ticks = i.ticks;
        good = record {
          there = i.good.there;
          known = i.good.known;
          told = λ n h.
              let old : reached start (among n given) ≤ until_by (line ∷ p.before ∷ []) n = subst (λ (f : Held). reached start (among n given) ≤ until_by (lines_of f) n) p.file_is (i.good.told n h) in
              subst (λ (f : Held). reached start (among n (g ∷ given)) ≤ until_by (lines_of f) n) (sym p.file_is) (told_given start saved given g line p.before n (nat_le g.at n) refl p.next within old);
        };
        sound = record {
          until = omega arith;
          time = i.sound.time;
          pending = tt;
          passed = omega (arith, within, p.passed);
          last = omega (arith, within, p.last);
          written = within;
          written_passed = p.passed;
          few = omega (arith, i.sound.few);
          full = omega (arith, few);
        };
      }

both_true : (a b : Bool) → (a && b) ≡ true → (a ≡ true) × (b ≡ true)
both_true true true e = (refl, refl)
both_true true false e = absurd (cc)
both_true false b e = absurd (cc)

module _ (start : ℕ) (file : Held) (saved moment : ℕ) (given : List Given) (seen : ℕ) where
  inv_gives_by : (s : Session) (b : Bool) → can_give s ≡ b → Inv start file saved moment (Some s) given seen
      → Holds start (cond b (world file saved moment (Some (record { clock = giving s.clock; count = s.count + 1 }))) (world file saved moment (Some s)))
      (cond b (record { at = s.count + 1; from = s.clock.until; until = s.clock.until + to_give s.clock } ∷ given) given) seen
  inv_gives_by s false e i = i
  inv_gives_by s true e i =
      let both = both_true (nat_lt s.count (2 ^ 64 - 1)) (nat_lt 0 (to_give s.clock)) e in
      inv_given start file saved moment given seen s.clock.until s.clock.opened s.clock.began s.clock.written s.count s.clock.claimed
      (ltb-true s.count (2 ^ 64 - 1) both.0) (ltb-true 0 (to_give s.clock) both.1) i

  inv_gives : (o : Option Session) → Inv start file saved moment o given seen → Holds start (gives (world file saved moment o) o) (more_given o given) seen
  inv_gives None i = i
  inv_gives (Some s) i = inv_gives_by s (can_give s) refl i

-- ---- a life

abbrev pub IsKept : ℕ → Life → Type 0
IsKept start life = Holds start life.world life.given life.seen

step : (start : ℕ) (w : World) (given : List Given) (seen : ℕ) (event : Event) → Holds start w given seen → Holds start (after w event) (given_after w given event) (seen_after seen event)
step start w given seen (Opened date answer how) i = inv_opens start w.file w.saved w.moment given seen w.session date answer how i
step start w given seen (Passed time) i = inv_later start w.file w.saved w.moment given seen w.session (min (w.moment + time) (2 ^ 64 - 1)) (seen + time) (omega arith) (omega (arith, i.ticks)) (omega arith) i
step start w given seen (Played inputs) i = inv_plays start w.file w.saved w.moment given seen w.session inputs i
step start w given seen (Claimed how) i = inv_claims start w.file w.saved w.moment given seen w.session how i
step start w given seen Gave i = inv_gives start w.file w.saved w.moment given seen w.session i
step start w given seen (Saved inputs) i = inv_saves start w.file w.saved w.moment given seen w.session inputs i
step start w given seen (Noted how) i = inv_notes start w.file w.saved w.moment given seen w.session how i
step start w given seen Cut i = inv_cut start w.file w.saved w.moment given seen w.session i

pub whole : (start : ℕ) (life : Life) (events : List Event) → IsKept start life → IsKept start (lived life events)
whole start life [] i = i
whole start life (event ∷ events) i = whole start (then_after life event) events (step start life.world life.given life.seen event i)

pub first : (start : ℕ) (w : World) → start ≤ LAST_SECOND → w.saved < 2 ^ 64 → w.moment < 2 ^ 64 → IsKept start (begun start w)
first start w last room ticks =
    let line : Line = record { count = w.saved; until = start } in
    record {
      order = tt;
      last = last;
      room = omega (arith, room);
      ticks = omega (arith, ticks);
      good = good_one start w.saved [] (start * 1000) tt line (omega arith) (omega arith);
      sound = omega (arith, one_until line w.saved);
    }

pub fair : (start : ℕ) (life : Life) → IsKept start life → IsFair start life
fair start life i =
    let saved = among_order start life.world.saved life.given i.order in
    let told = i.good.told life.world.saved (omega arith) in
    let known = i.good.known life.world.saved in
    let all = total_order start (among life.world.saved life.given) saved.0 in
    record {
      once = λ moment. order_once start moment (among life.world.saved life.given) saved.0;
      passed = omega (arith, told, known, all);
      told = told;
      lost = omega (arith, known);
    }

pub no_second_twice : NoSecondTwice
no_second_twice start w events last room ticks = fair start (lived (begun start w) events) (whole start (begun start w) events (first start w last room ticks))
