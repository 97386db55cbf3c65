-- From an object's fault to an image's.
use Rattle.std.proofs.Common.{ℕ, List, Option, Some, None}
use Rattle.std.specs.Prelude.{IfSome, Result, Ok, Err, IfErr}
use Rattle.std.specs.Io.KnownBytes.{IsAtEnd}
use Rattle.serde_json.specs.Data.{Members}
use Rattle.zarrs_load.specs.Reading.{IsWithinBound}
use Rattle.zarrs_load.specs.Image.{IsObject, IsImageFault, RefusedImage, member_list}
use Rattle.zarrs_load.specs.StepsOfLoading.{IsMemberFault}
use Rattle.zarrs_load.specs.declared.fault.LoadFault.{LoadFault}
use Rattle.zarrs_load.specs.declared.fault.LoadFault.TheVariants.{Read, ReadTooLong, Image, ImageKey, ImageValue, Folder, OutOfMemory}

-- what is known of the members is known of the image, where its bytes are known
with_members : (before : Option (List ℕ)) (ms : Members) (fault : LoadFault) → IfSome before (IsObject ms) → IfSome before IsWithinBound
    → ((bytes : List ℕ) → IsObject ms bytes → IsImageFault bytes fault) → IfSome before (λ bytes. IsWithinBound bytes × IsImageFault bytes fault)
with_members None ms fault object within holds = tt
with_members (Some bytes) ms fault object within holds = (within, holds bytes object)

-- an object's members that make no store are an image's fault
pub refused_members : (before after : Option (List ℕ)) (ms : Members) (fault : LoadFault) → IsAtEnd after → IfSome before (IsObject ms)
    → IfSome before IsWithinBound → IsMemberFault (member_list ms) fault → RefusedImage before after fault
refused_members before after ms (ImageKey name) end object within bad = (end, with_members before ms (ImageKey name) object within (λ bytes is. (ms, is, bad.0, bad.1, bad.2)))
refused_members before after ms (ImageValue name) end object within bad = (end, with_members before ms (ImageValue name) object within (λ bytes is. (ms, is, bad.0, bad.1, bad.2, bad.3)))
refused_members before after ms OutOfMemory end object within bad = tt
refused_members before after ms Read end object within bad = tt
refused_members before after ms ReadTooLong end object within bad = absurd bad
refused_members before after ms Image end object within bad = absurd bad
refused_members before after ms Folder end object within bad = absurd bad

-- an error that an object's members make no store is an image's fault
pub refused_members_result : {T : Type 0} (before after : Option (List ℕ)) (ms : Members) (r : Result T LoadFault) → IsAtEnd after
    → IfSome before (IsObject ms) → IfSome before IsWithinBound → IfErr r (IsMemberFault (member_list ms)) → IfErr r (RefusedImage before after)
refused_members_result before after ms (Ok x) end object within bad = tt
refused_members_result before after ms (Err fault) end object within bad = refused_members before after ms fault end object within bad
