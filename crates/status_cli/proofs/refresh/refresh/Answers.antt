use Rattle.std.proofs.Common.{◌≡◌, ◌∙◌, [], Some, Ok, Err, ap, sym, subst}
use Rattle.std.specs.Prelude.{◌⊎◌}
use Rattle.serde_json.specs.Read.{read as json_of}
use Rattle.serde_json.specs.View.{view}
use Rattle.serde_json.proofs.Nesting.{depth-read}
use Rattle.status_profile.specs.Profiles.{IsRead}
use Rattle.status_profile.specs.Readings.{IsJsonRead}
use Rattle.status_profile.proofs.Readings.{profile_read, profile_unread}
use Rattle.status_profile.specs.declared.options.Kind.TheVariants.{Plain}
use Rattle.status_cli.specs.declared.failure.Failure.{Failure}
use Rattle.status_cli.specs.declared.failure.Failure.TheVariants.{Unreadable, Memory}
use Rattle.status_cli.specs.Refreshes.{IsIndexRefreshed, IsRefreshFailed, IsRefreshed}
use Rattle.status_cli.proofs.Commands.{known_all, of_known}
use Rattle.status_cli.proofs.Refreshed.{err_weaker, failed_read, failed_status, failed_text, failed_unread, text_made}
use Rattle.status_cli.proofs.refresh.refresh.Goals as goal

pub returns-in_err-text-clause-err : goal.returns-in_err-text-clause-err
returns-in_err-text-clause-err g c =
    let old = g.O.Write.contents c.args.output.now in
    let failed = c.from_residual in
    let why : (f : Failure) → f ≡ c.in_err-text.field-0.0 → (f ≡ Unreadable) ⊎ (f ≡ Memory) = λ f is. subst (λ d. (d ≡ Unreadable) ⊎ (d ≡ Memory)) (sym is) c.in_err-text.ensures.err in
    err_weaker failed.result _ _ (λ f is. known_all (λ all. IsRefreshFailed all old f old) (λ all. failed_unread all old f (why f is)) _) failed.ensures.1

pub returns-in_err-value-clause-err : goal.returns-in_err-value-clause-err
returns-in_err-value-clause-err g c =
    let text = c.in_ok-text.text.items in
    let old = g.O.Write.contents c.args.output.now in
    let e = c.in_err-value.field-0.0 in
    let failed = c.from_residual-in_err-value in
    let unread : IsJsonRead text (Err e) = subst (λ t. IsJsonRead t (Err e)) c.as_slice.ensures.value c.in_err-value.ensures in
    err_weaker failed.result _ _ (λ f is. of_known (λ all. IsRefreshFailed all old f old) _ text c.in_ok-text.ensures.ok (failed_read text old e (profile_unread text Plain e unread) f is)) failed.ensures.1

pub returns-in_err-profile-clause-err : goal.returns-in_err-profile-clause-err
returns-in_err-profile-clause-err g c =
    let text = c.in_ok-text.text.items in
    let value = c.in_ok-value.value in
    let old = g.O.Write.contents c.args.output.now in
    let e = c.in_err-profile.field-0.0 in
    let failed = c.from_residual-in_err-profile in
    let says : IsJsonRead text (Ok value) = subst (λ t. IsJsonRead t (Ok value)) c.as_slice.ensures.value c.in_ok-value.ensures in
    let parsed : json_of text ≡ Some (view value) = says.1.1 ∙ ap Some says.1.2 in
    let read : IsRead Plain text (Err e) = profile_read text (view value) says.0 parsed Plain (Err e) c.in_err-profile.ensures.read in
    err_weaker failed.result _ _ (λ f is. of_known (λ all. IsRefreshFailed all old f old) _ text c.in_ok-text.ensures.ok (failed_read text old e read f is)) failed.ensures.1

pub returns-in_err-index-clause-err : goal.returns-in_err-index-clause-err
returns-in_err-index-clause-err g c =
    let text = c.in_ok-text.text.items in
    let value = c.in_ok-value.value in
    let p = c.in_ok-profile.profile in
    let old = g.O.Write.contents c.args.output.now in let new = g.O.Write.contents c.refresh_index.new.output in
    let e = c.in_err-index.field-0.0 in
    let failed = c.from_residual-in_err-index in
    let says : IsJsonRead text (Ok value) = subst (λ t. IsJsonRead t (Ok value)) c.as_slice.ensures.value c.in_ok-value.ensures in
    let parsed : json_of text ≡ Some (view value) = says.1.1 ∙ ap Some says.1.2 in
    let read : IsRead Plain text (Ok p) = profile_read text (view value) says.0 parsed Plain (Ok p) c.in_ok-profile.ensures.read in
    let printed : IsIndexRefreshed p c.args.timestamp old (Err e) new = subst (λ r. IsIndexRefreshed p c.args.timestamp old r new) c.in_err-index.was c.refresh_index.ensures in
    err_weaker failed.result _ _ (λ f is. of_known (λ all. IsRefreshFailed all old f new) _ text c.in_ok-text.ensures.ok (failed_status text old new p read e f is printed)) failed.ensures.1

pub returns-in_err-refreshed_text-clause-err : goal.returns-in_err-refreshed_text-clause-err
returns-in_err-refreshed_text-clause-err g c =
    let text = c.in_ok-text.text.items in
    let value = c.in_ok-value.value in
    let p = c.in_ok-profile.profile in
    let old = g.O.Write.contents c.args.output.now in let new = g.O.Write.contents c.refresh_index.new.output in
    let e = c.in_err-refreshed_text.field-0.0 in
    let failed = c.from_residual-in_err-refreshed_text in
    let says : IsJsonRead text (Ok value) = subst (λ t. IsJsonRead t (Ok value)) c.as_slice.ensures.value c.in_ok-value.ensures in
    let parsed : json_of text ≡ Some (view value) = says.1.1 ∙ ap Some says.1.2 in
    let read : IsRead Plain text (Ok p) = profile_read text (view value) says.0 parsed Plain (Ok p) c.in_ok-profile.ensures.read in
    let refreshed : IsIndexRefreshed p c.args.timestamp old (Ok c.in_ok-index.index) new = subst (λ r. IsIndexRefreshed p c.args.timestamp old r new) c.in_ok-index.was c.refresh_index.ensures in
    err_weaker failed.result _ _
    (λ f is. of_known (λ all. IsRefreshFailed all old f new) _ text c.in_ok-text.ensures.ok (failed_text text old new p read c.args.timestamp c.in_ok-index.index refreshed c.in_ok-profile.ensures.utf8 e c.in_err-refreshed_text.ensures.err f is))
    failed.ensures.1

pub returns-clause-ok : goal.returns-clause-ok
returns-clause-ok g c =
    let text = c.in_ok-text.text.items in
    let value = c.in_ok-value.value in
    let p = c.in_ok-profile.profile in
    let old = g.O.Write.contents c.args.output.now in let new = g.O.Write.contents c.refresh_index.new.output in
    let line = c.in_ok-refreshed_text.field-0.items in
    let says : IsJsonRead text (Ok value) = subst (λ t. IsJsonRead t (Ok value)) c.as_slice.ensures.value c.in_ok-value.ensures in
    let parsed : json_of text ≡ Some (view value) = says.1.1 ∙ ap Some says.1.2 in
    let read : IsRead Plain text (Ok p) = profile_read text (view value) says.0 parsed Plain (Ok p) c.in_ok-profile.ensures.read in
    let refreshed : IsIndexRefreshed p c.args.timestamp old (Ok c.in_ok-index.index) new = subst (λ r. IsIndexRefreshed p c.args.timestamp old r new) c.in_ok-index.was c.refresh_index.ensures in
    of_known (λ all. IsRefreshed all c.args.timestamp old new [] line) _ text c.in_ok-text.ensures.ok
    (text_made text old new p read c.args.timestamp c.in_ok-index.index refreshed (view value) parsed line (c.in_ok-refreshed_text.ensures.text (depth-read text (view value) parsed)))
