-- `message_auth_boot::authenticated_boot` meets its contract: N4 or N5.
use mathlib.Core.Path.{refl}
use borrow.Author.Tests.{lt-ltb, le-ltb}
use Rattle.message_operation.proofs.Rows.{too_short_lem, not_offered_lem, refuses, plainly}
use Rattle.message_auth_boot.proofs.authenticated_boot.Goals as goal

pub returns-then-message-lt-AUTH_BOOT_BYTES : goal.returns-then-message-lt-AUTH_BOOT_BYTES
returns-then-message-lt-AUTH_BOOT_BYTES c m channel status room =
    plainly refl refl (refuses (too_short_lem (lt-ltb _ _ c.if-message-lt-AUTH_BOOT_BYTES.true)))

pub returns : goal.returns
returns c m channel status room = plainly refl refl (refuses (not_offered_lem (le-ltb _ _ c.if-message-lt-AUTH_BOOT_BYTES.false) refl))
