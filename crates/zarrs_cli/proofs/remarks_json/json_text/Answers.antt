use Rattle.std.proofs.Common.{[], ◌∷◌, ◌++◌, ap, ◌∙◌, string_bytes}
use Rattle.zarrs_cli.proofs.Json.{json_written}
use Rattle.zarrs_cli.proofs.remarks_json.json_text.Goals as goal

pub returns : goal.returns
returns c =
    c.in_ok-push_str.ensures.bytes
    ∙ ap (λ t. t ++ 10 ∷ []) (json_written c.in_ok-array.array c.args.remarks.items (string_bytes c.in_ok-text.text) c.in_ok-array.ensures c.in_ok-text.ensures.text)
