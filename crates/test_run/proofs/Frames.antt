-- A frame, byte by byte.
use Rattle.std.proofs.Common.{◌≡◌, ◌≤◌, ℕ, List, [], ◌++◌, sym, ap, subst, ◌∙◌, append-nil, append_assoc, Option, None}
use Rattle.std.specs.Io.KnownBytes.{Appends}
use Rattle.exact_text.specs.Written.{AppendsProperPrefix}
use Rattle.exact_text.proofs.Writes.{prefix_of_longer, whole_then_prefix}
use Rattle.machine.specs.Watched.{Seen, sent_before}
use Rattle.test_run.specs.declared.frame.PlayedFrame.{PlayedFrame}
use Rattle.test_run.specs.Ends.{end_seen}
use Rattle.test_run.specs.Told.{ToldState, told_all}
use Rattle.test_run.specs.Playing.{HasPlayed}

pub sent_before_twice : (a b : List ℕ) (s : Seen) → sent_before a (sent_before b s) ≡ sent_before (a ++ b) s
sent_before_twice a b s = ap (λ (x : List ℕ). record { end = s.end; sent = x; breaks = s.breaks }) (sym (append_assoc a b s.sent))

-- more bytes are sent
pub sent_more : (seen now next : Seen) (bytes more : List ℕ) → seen ≡ sent_before bytes now → now ≡ sent_before more next → seen ≡ sent_before (bytes ++ more) next
sent_more seen now next bytes more e f = e ∙ ap (sent_before bytes) f ∙ sent_before_twice bytes more next

-- a write of these bytes failed
pub sent_in_part : (seen now next : Seen) (bytes more : List ℕ) (a b c : Option (List ℕ)) → seen ≡ sent_before bytes now → now ≡ sent_before more next
    → Appends a b bytes → AppendsProperPrefix b c more → AppendsProperPrefix a c seen.sent
sent_in_part seen now next bytes more a b c e f written part =
    subst (λ (s : Seen). AppendsProperPrefix a c s.sent) (sym (e ∙ ap (sent_before bytes) f))
    (whole_then_prefix a b c bytes (more ++ next.sent) written (prefix_of_longer b c more next.sent part))

-- nothing more is sent
pub has_played : (seen now : Seen) (bytes : List ℕ) (old new : ToldState) (a b : Option (List ℕ)) (played : PlayedFrame) → seen ≡ sent_before bytes now → now.sent ≡ []
    → played.frame ≡ now.end → played.end ≡ end_seen now → (played.end ≡ None → 17556 ≤ played.frame.passed) → new ≡ told_all old bytes → Appends a b bytes
    → HasPlayed seen old new a b played
has_played seen now bytes old new a b played e none frame end over told written =
    let sent : seen.sent ≡ bytes = ap (λ (s : Seen). s.sent) e ∙ ap (λ (x : List ℕ). bytes ++ x) none ∙ append-nil bytes in record {
      frame = frame ∙ sym (ap (λ (s : Seen). s.end) e);
      end = end ∙ sym (ap end_seen e);
      over = over;
      told = told ∙ ap (told_all old) (sym sent);
      written = subst (Appends a b) (sym sent) written;
    }
