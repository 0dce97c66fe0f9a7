pub mod VictimsAgree
pub mod VictimsFound
